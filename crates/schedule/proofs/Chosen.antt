-- The choice and the stealing together. Assumes nothing.
use Rattle.schedule.proofs.Parts.{no_part}
use Rattle.std.specs.Prelude.{None, Option, Some, is_some}
use mathlib.Core.Path.{◌≡◌, refl, sym, ap, ◌∙◌, subst}
use mathlib.Core.Bool.{Bool, true, false, ◌&&◌}
use mathlib.Core.List.{List, ◌∷◌}
use Prim.Native.Nat.{ℕ, ◌<◌}
use native.Mathlib.Omega.{arith}
use lib.Dec.{leb, ltb, eqb}
use borrow.Author.Tests.{eq-eqb, ne_eqb}
use mathlib.Core.Logic.{◌≢◌}
use lib.ListN.{length, set, length-set}
use Rattle.columns.proofs.Tests.{by_test}
use Rattle.answer.specs.declared.Rule.{Rule}
use Rattle.entries.specs.declared.Entry.{Entry}
use Rattle.context.specs.declared.Context.{Context}
use Rattle.context.specs.Status.{is_runnable}
use Rattle.percpu.specs.declared.PercpuBlock.{PercpuBlock}
use Rattle.percpu.specs.Cpu.{Cpu}
use Rattle.machine.specs.Machine.{Machine, context_at, cpu_at}
use Rattle.machine.specs.Encode.{encode}
use Rattle.machine.specs.Shape.{Fits, Image}
use Rattle.model.specs.State.{State, state_of, holder, prev_runnable}
use Rattle.model.specs.Choice.{Choice, goes_before, prev_is_eligible, choice, chosen}
use Rattle.model.specs.Scan.{Scan}
use Rattle.model.specs.Rule.{rule_nobody, rule_by, rule_of}
use Rattle.model.specs.Steal.{steal}
use Rattle.model.specs.Schedule.{scanned, locks, choose_and_steal}
use Rattle.stages.specs.Stage.{put_state, Stage, Ranged}
use Rattle.stages.proofs.Compose.{state_put}
use Rattle.stages.proofs.Kept.{ranged_stage}
use Rattle.select_judge.specs.Values.{WinnerBelow}
use Rattle.select.proofs.Bounded.{below_chosen}
use Rattle.steal.specs.Moves.{machine_of, StealsAt, Steals}
use Rattle.steal.proofs.Bounded.{steal_ranged}
use Rattle.schedule.specs.Part.{Ruled, ruled, chosen_by, put_in, PartAt, Part}
use Rattle.schedule.specs.Stolen.{stolen_rule}
use Rattle.schedule.specs.Named.{NamedBelow}
use lib.Seq.{set-set}
use Rattle.schedule.proofs.Robbing.{over, steal_over, steal_named, entries_fit}
use Rattle.stages.specs.Bounds.{t_timed, b_charged, b_stolen}

abbrev pub taken : (k time : ℕ) → State → State
taken k time s = chosen (choice s (scanned k time s)) (scanned k time s) s

pub chosen_ranged : {c n k b d : ℕ} {m m' : List ℕ} {q : Choice} (time : ℕ) → k < c → Stage c n k m m' false q (λ (s : State). taken k time s) (λ (s : State). choice s (scanned k time s))
    → Ranged c n b d m → Ranged c n b d m'
chosen_ranged {n = n} {k = k} {b = b} {d = d} time h t r =
    ranged_stage (omega arith) (omega arith) h t (λ M o s. below_chosen n b d k time (state_of k M) (o.cpu k h).sched s) r

-- the machine between the choice and the stealing
abbrev chosen_machine : (k time : ℕ) → Machine → Machine
chosen_machine k time M = put_state k (taken k time (state_of k M)) M

-- only where nobody waits does the stealing count
nobody_stolen : (s : State) (o : Option Entry) (b : Bool) → stolen_rule b (rule_nobody s false o) ≡ rule_nobody s b o
unfolding stolen_rule
nobody_stolen s None b = by_test (prev_runnable s) (λ t. rw t) (λ t. rw t)
nobody_stolen s (Some e) b =
    by_test (prev_runnable s && leb (holder s).vtime e.vtime) (λ t. rw t)
    (λ t. rw t (by_test (prev_runnable s && leb (holder s).vd e.key.vd) (λ u. rw u) (λ u. rw u)))

stolen_by : (s : State) (f : Scan) (o : Option Entry) (b : Bool) → stolen_rule b (rule_by s false f o) ≡ rule_by s b f o
unfolding stolen_rule
stolen_by s f (Some e) b =
    let c = context_at f.contexts e.context_ref in
    by_test (prev_is_eligible s && goes_before (holder s) c) (λ t. rw t (by_test (ltb (holder s).vd c.vd) (λ u. rw u) (λ u. rw u))) (λ t. rw t)
stolen_by s f None b = by_test (prev_is_eligible s) (λ t. rw t) (λ t. rw t (nobody_stolen s f.ineligible_best b))

stolen_is_rule : (s : State) (f : Scan) (b : Bool) → stolen_rule b (rule_of s false f) ≡ rule_of s b f
unfolding rule_of
stolen_is_rule s f b = stolen_by s f f.eligible_best b

-- q: the choice as the code has it; runs and locked: what the stealing is given besides the winner; p and p': the rule before and after it
module _ (time : ℕ) (runs : Bool) (locked : List ℕ) {c n k : ℕ} {m m' m'' : List ℕ} (h : k < c) {q : Choice} (t : Stage c n k m m' false q (λ (s : State). taken k time s) (λ (s : State). choice s (scanned k time s)))
    {full : Bool} {w' : Option ℕ} (u : Steals c n k m' m'' full w' (λ (M : Machine). steal k runs locked M.cpus q.winner (state_of k M)))
    (hr : (M : Machine) → m ≡ encode M → Fits c n M → runs ≡ prev_runnable (state_of k M))
    (hl : (M : Machine) → m ≡ encode M → Fits c n M → locked ≡ (state_of k M).cpu.block.sched_ctxt ∷ q.locked) where
  module _ (M : Machine) (e : m ≡ encode M) (o : Fits c n M) (cpus : List Cpu) (z : set cpus k (cpu_at M k) ≡ M.cpus) where
    chosen_is : q ≡ choice (state_of k M) (scanned k time (state_of k M))
    chosen_is = (t.stage M e o).answer refl

    state_is : state_of k (chosen_machine k time M) ≡ taken k time (state_of k M)
    state_is = state_put k (taken k time (state_of k M)) M (omega (arith, o.cpus)) (sym (t.stage M e o).room)

    long : k < length cpus
    long = let y : length (set cpus k (cpu_at M k)) ≡ length M.cpus = ap length z in omega (arith, o.cpus, length-set cpus k (cpu_at M k))

    cpus_are : (chosen_machine k time M).cpus ≡ set cpus k (taken k time (state_of k M)).cpu
    cpus_are = ap (λ (l : List Cpu). set l k (taken k time (state_of k M)).cpu) (sym z) ∙ set-set cpus k (cpu_at M k) (taken k time (state_of k M)).cpu

    stolen_is : steal k runs locked (chosen_machine k time M).cpus q.winner (state_of k (chosen_machine k time M)) ≡ over k (taken k time (state_of k M)).cpu (choose_and_steal k time cpus (state_of k M))
    unfolding choose_and_steal
    stolen_is =
        (λ i. steal k (hr M e o i) ((hl M e o ∙ ap (λ (x : Choice). locks (state_of k M) x) chosen_is) i) (cpus_are i) (chosen_is i).winner (state_is i))
        ∙ steal_over k (taken k time (state_of k M)).cpu (prev_runnable (state_of k M)) (locks (state_of k M) (choice (state_of k M) (scanned k time (state_of k M)))) cpus (choice (state_of k M) (scanned k time (state_of k M))).winner (taken k time (state_of k M)) long

    put_is : machine_of k (over k (taken k time (state_of k M)).cpu (choose_and_steal k time cpus (state_of k M))) ≡ put_in k (choose_and_steal k time cpus (state_of k M)).cpus (choose_and_steal k time cpus (state_of k M)).state
    put_is = λ i. record { contexts = (choose_and_steal k time cpus (state_of k M)).state.contexts; cpus = set-set (choose_and_steal k time cpus (state_of k M)).cpus k (taken k time (state_of k M)).cpu (choose_and_steal k time cpus (state_of k M)).state.cpu i }

    part_at : {p p' : Rule} → ((M : Machine) → m ≡ encode M → Fits c n M → p ≡ rule_of (state_of k M) false (scanned k time (state_of k M))) → p' ≡ stolen_rule (is_some w') p
        → PartAt c n k m'' full (ruled w' p') (chosen_by k time cpus (state_of k M))
    part_at hp hs =
        let a = t.stage M e o
        in let b = subst (StealsAt c n k m'' full w') stolen_is (u.steals (chosen_machine k time M) (a.after refl) (a.fits refl))
        in record {
          room = b.room;
          after = λ y. b.after y ∙ ap encode put_is;
          fits = λ y. subst (Fits c n) put_is (b.fits y);
          answer = λ y. λ i. ruled (b.winner y i) ((hs ∙ (λ j. stolen_rule (is_some (b.winner y j)) (hp M e o j)) ∙ stolen_is_rule (state_of k M) (scanned k time (state_of k M)) _) i);
        }

  pub chosen_part : {p p' : Rule} → ((M : Machine) → m ≡ encode M → Fits c n M → p ≡ rule_of (state_of k M) false (scanned k time (state_of k M))) → p' ≡ stolen_rule (is_some w') p
      → Part c n k m m'' full (ruled w' p') (λ (cpus : List Cpu) (s : State). chosen_by k time cpus s)
  chosen_part hp hs = record { image = u.image; part = λ M e o cpus z. part_at M e o cpus z hp hs }

  -- without room, whoever is said to have won
  pub unchosen_part : {q' : Ruled} {m''' : List ℕ} → full ≡ true → Part c n k m m''' true q' (λ (cpus : List Cpu) (s : State). chosen_by k time cpus s)
  unchosen_part f =
      no_part
      (λ M e o cpus z.
      let a = t.stage M e o
      in let b = subst (StealsAt c n k m'' full w') (stolen_is M e o cpus z) (u.steals (chosen_machine k time M) (a.after refl) (a.fits refl))
      in sym b.room ∙ f)

  pub stolen_ranged : full ≡ false → Ranged c n t_timed b_charged m → Ranged c n t_timed b_stolen m''
  stolen_ranged z r = steal_ranged runs locked q.winner h z u (chosen_ranged time h t r)

  pub stolen_named : full ≡ false → Image c n m → NamedBelow n q.winner → NamedBelow n w'
  stolen_named z i y x e =
      let a = t.stage i.M i.eq i.fits
      in let M : Machine = chosen_machine k time i.M
      in let b = u.steals M (a.after refl) (a.fits refl)
      in steal_named n runs k locked M.cpus (entries_fit M (a.fits refl)) q.winner (state_of k M) y x (sym (b.winner z) ∙ e)

-- whether the holder is runnable, by what was read; b: the block
module _ {c n : ℕ} {m : List ℕ} (k : ℕ) (b : PercpuBlock) (hb : (M : Machine) → m ≡ encode M → Fits c n M → b ≡ (cpu_at M k).block) (M : Machine) (e : m ≡ encode M) (o : Fits c n M) where
  idle_is : (y : Bool) → eqb b.sched_ctxt b.idle_ctxt ≡ y → eqb (cpu_at M k).block.sched_ctxt (cpu_at M k).block.idle_ctxt ≡ y
  idle_is y z = rw (hb M e o) at z

  pub runs_idle : b.sched_ctxt ≡ b.idle_ctxt → false ≡ prev_runnable (state_of k M)
  runs_idle z = rw (idle_is true (eq-eqb _ _ z))

  pub runs_by : (x : ℕ) (q : Context) (r : Bool) → b.sched_ctxt ≢ b.idle_ctxt → x ≡ b.sched_ctxt → q ≡ context_at M.contexts x
      → r ≡ is_runnable q.status → r ≡ prev_runnable (state_of k M)
  runs_by x q r z hx hq hr =
      rw (idle_is false (ne_eqb _ _ z)) (hr ∙ ap (λ (y : Context). is_runnable y.status) (hq ∙ ap (context_at M.contexts) (hx ∙ ap (λ (y : PercpuBlock). y.sched_ctxt) (hb M e o))))

-- the winner of the choice is a context's number
pub winner_named : (n : ℕ) (w : Option ℕ) → WinnerBelow n w → NamedBelow n w
winner_named n None h x z = let g : ◌≡◌ {A = ℕ} 0 1 = cc in absurd (omega arith)
winner_named n (Some y) h x z = let g : y ≡ x = cc in subst (λ (i : ℕ). i < n) g h

-- the holder and what the choice keeps locked, as the stealing is told
pub locks_are : {c n : ℕ} {m : List ℕ} (k : ℕ) (b : PercpuBlock) → ((M : Machine) → m ≡ encode M → Fits c n M → b ≡ (cpu_at M k).block) → {x : ℕ} → x ≡ b.sched_ctxt → (l : List ℕ)
    → (M : Machine) → m ≡ encode M → Fits c n M → x ∷ l ≡ (state_of k M).cpu.block.sched_ctxt ∷ l
locks_are k b hb hx l M e o = λ i. (hx ∙ ap (λ (y : PercpuBlock). y.sched_ctxt) (hb M e o)) i ∷ l
