-- The scan, the clean-up and the choice as one stage. Assumes nothing.
use Rattle.std.specs.Prelude.{Option}
use Rattle.entries.specs.declared.Key.{Key}
use mathlib.Core.Path.{◌≡◌, refl, sym, ap, ◌∙◌, subst}
use mathlib.Core.Bool.{false}
use mathlib.Core.List.{List}
use Prim.Native.Nat.{ℕ, ◌<◌}
use Rattle.context.specs.declared.Context.{Context}
use Rattle.entries.specs.declared.Entry.{Entry}
use Rattle.percpu.specs.declared.PercpuBlock.{PercpuBlock}
use Rattle.percpu.specs.Cpu.{Cpu}
use Rattle.answer.specs.declared.Rule.{Rule}
use Rattle.machine.specs.Machine.{Machine, context_at, cpu_at, with_contexts}
use Rattle.machine.specs.Encode.{encode}
use Rattle.machine.specs.Shape.{Fits, Image}
use Rattle.model.specs.State.{State, state_of, holder}
use Rattle.model.specs.Scan.{Scan, judge, visit, visited, scan_step, scan}
use Rattle.model.specs.Choice.{Choice, ineligible_holder, choice, taken_out, chosen}
use Rattle.model.specs.Rule.{rule_of}
use Rattle.model.specs.Schedule.{scanned}
use Rattle.stages.specs.Stage.{put_state, Stage, Staged}
use Rattle.stages.proofs.Compose.{staged, stage_then, stage_as}
use Rattle.select_judge.specs.declared.Holder.{Holder}
use Rattle.select_judge.specs.declared.Scanner.{Scanner}
use Rattle.select_judge.specs.declared.Scanned.{Scanned}
use Rattle.select_judge.specs.Values.{cpu_with}
use Rattle.select_judge.specs.Holding.{Holding, Scanning, Chosen}
use Rattle.select.specs.Scanning.{scan_by, keys_in, found, Scans}
use Rattle.select.specs.Cleaning.{cleaned, chosen_after}
use Rattle.select.proofs.Cleaning.{put_contexts, cleaned_is}

-- the holder of CPU k, from its block b
pub holder_at : (k : ℕ) (M : Machine) {b : PercpuBlock} {x : ℕ} {q : Context} → b ≡ (cpu_at M k).block → x ≡ b.sched_ctxt → q ≡ context_at M.contexts x → q ≡ holder (state_of k M)
holder_at k M hb hx hq = hq ∙ ap (context_at M.contexts) (hx ∙ ap (λ (b : PercpuBlock). b.sched_ctxt) hb)

pub sched_below : {c n : ℕ} {m : List ℕ} (i : Image c n m) (k : ℕ) {b : PercpuBlock} → k < c → ((M : Machine) → m ≡ encode M → Fits c n M → b ≡ (cpu_at M k).block) → b.sched_ctxt < n
sched_below {n = n} i k h f = subst (λ (b : PercpuBlock). b.sched_ctxt < n) (sym (f i.M i.eq i.fits)) (i.fits.cpu k h).sched

pub scanning : (k time : ℕ) (b : PercpuBlock) (late : Option ℕ) {x : ℕ} → x ≡ k → (s : State) → b ≡ s.cpu.block → late ≡ ineligible_holder s
    → Scanning k time (record { cpu_id = x; time = time; idle_ctxt = b.idle_ctxt; sched_ctxt = b.sched_ctxt; current_ctxt = b.current_ctxt; v = b.v; ineligible_holder = late }) s
scanning k time b late e s hb hl =
    record {
      cpu_id = e;
      time_is = refl;
      idle = ap (λ (y : PercpuBlock). y.idle_ctxt) hb;
      sched = ap (λ (y : PercpuBlock). y.sched_ctxt) hb;
      current = ap (λ (y : PercpuBlock). y.current_ctxt) hb;
      v = ap (λ (y : PercpuBlock). y.v) hb;
      ineligible = hl;
    }

-- the scan goes by no more of the CPU than the code has
scan_with : (k time : ℕ) (p : Cpu) (h : Option ℕ) (cs : List Context) (q : List Entry)
    → scan k time (cpu_with p.block.idle_ctxt p.block.sched_ctxt p.block.current_ctxt p.block.v) h cs q ≡ scan k time p h cs q
unfolding scan scan_step visited visit judge
scan_with k time p h cs q = refl

scan_is : (k time : ℕ) (t : Scanner) (s : State) → Scanning k time t s → scan_by t s.contexts s.cpu.queue ≡ scanned k time s
scan_is k time t s o =
    (λ j. scan (o.cpu_id j) (o.time_is j) (cpu_with (o.idle j) (o.sched j) (o.current j) (o.v j)) (o.ineligible j) s.contexts s.cpu.queue)
    ∙ scan_with k time s.cpu (ineligible_holder s) s.contexts s.cpu.queue

-- the state with the contexts of a scan
abbrev with_scan : Scan → State → State
with_scan f s = record { contexts = f.contexts; cpu = s.cpu; no_room = s.no_room }

scan_stage : {c n k : ℕ} {m m' : List ℕ} {d : List Key} {w : Scanned} (t : Scanner) → Image c n m → Scans c n m m' d w (λ (M : Machine). scan_by t M.contexts (cpu_at M k).queue)
    → Staged c n k m m' false (λ (s : State). with_scan (scan_by t s.contexts s.cpu.queue) s)
scan_stage {k = k} t i a =
    staged i
    (λ M e o.
    let z = a.scans M e o
    in let p = put_contexts k (scan_by t M.contexts (cpu_at M k).queue).contexts M
    in record { room = refl; after = λ y. z.after ∙ ap encode p; fits = λ y. subst (Fits _ _) p z.fits; answer = λ y. refl })

-- the choice and its effect, after the scan
pub apply_then : {c n k : ℕ} {m m' m'' : List ℕ} (s : State) (w : Scanned) (d : List Key) {r : Choice} {h : Holder} → k < c
    → ((M : Machine) → m ≡ encode M → Fits c n M → (s : State) (f : Scan) → Holding h s → Chosen M.contexts w f → r ≡ choice s f) → Holding h s
    → Staged c n k m m' false (λ (a : State). cleaned w.weight_change (keys_in d w.contexts_to_remove) r.v a) → Staged c n k m' m'' false (λ (a : State). taken_out r.winner a)
    → Stage c n k m m'' false r (λ (a : State). chosen_after s (found a.contexts w d) a) (λ (a : State). choice s (found a.contexts w d))
unfolding chosen_after found
apply_then {k = k} s w d {r} h g o t u =
    stage_as (stage_then h t u)
    (λ M e b.
    let z : r ≡ choice s (found M.contexts w d) = g M e b s (found M.contexts w d) o (record { contexts = refl; best = refl; late = refl })
    in ((λ j. taken_out (z j).winner (cleaned w.weight_change (keys_in d w.contexts_to_remove) (z j).v (state_of k M))), λ f y. z))

pub apply_rule : {c n : ℕ} {m : List ℕ} (w : Scanned) (d : List Key) {u : Rule} {h : Holder}
    → ((M : Machine) → m ≡ encode M → Fits c n M → (s : State) (f : Scan) → Holding h s → Chosen M.contexts w f → u ≡ rule_of s false f)
    → (s : State) → Holding h s → (M : Machine) → m ≡ encode M → Fits c n M → u ≡ rule_of s false (found M.contexts w d)
unfolding found
apply_rule w d g s o M e b = g M e b s (found M.contexts w d) o (record { contexts = refl; best = refl; late = refl })

chosen_after_is : (s : State) (f : Scan) → chosen_after s f (with_scan f s) ≡ chosen (choice s f) f s
unfolding chosen_after chosen
chosen_after_is s f = ap (taken_out (choice s f).winner) (cleaned_is f (choice s f).v s)

-- the whole stage
pub select_then : {c n : ℕ} {m m' m'' : List ℕ} (k time : ℕ) (d : List Key) (w : Scanned) (t : Scanner) {h : Holder} {r : Choice} (i : Image c n m) → k < c
    → ((M : Machine) → m ≡ encode M → Fits c n M → Holding h (state_of k M)) → ((M : Machine) → m ≡ encode M → Fits c n M → Scanning k time t (state_of k M))
    → Scans c n m m' d w (λ (M : Machine). scan_by t M.contexts (cpu_at M k).queue)
    → ((s : State) → Holding h s → Stage c n k m' m'' false r (λ (a : State). chosen_after s (found a.contexts w d) a) (λ (a : State). choice s (found a.contexts w d)))
    → Stage c n k m m'' false r (λ (s : State). chosen (choice s (scanned k time s)) (scanned k time s) s) (λ (s : State). choice s (scanned k time s))
select_then {c} {n} k time d w t i b ho hs a u =
    staged i
    (λ M e o.
    let s = state_of k M
    in let z = (stage_then b (scan_stage t i a) (u s (ho M e o))).stage M e o
    in let f = scan_by t M.contexts (cpu_at M k).queue
    in let q : found f.contexts w d ≡ scanned k time s = (a.scans M e o).same ∙ scan_is k time t s (hs M e o)
    in let p : chosen_after s (found f.contexts w d) (with_scan f s) ≡ chosen (choice s (scanned k time s)) (scanned k time s) s =
    (λ j. chosen_after s (q j) (with_scan (scan_is k time t s (hs M e o) j) s)) ∙ chosen_after_is s (scanned k time s)
    in record {
      room = z.room ∙ ap (λ (x : State). x.no_room) p;
      after = λ y. z.after y ∙ ap (λ (x : State). encode (put_state k x M)) p;
      fits = λ y. subst (λ (x : State). Fits c n (put_state k x M)) p (z.fits y);
      answer = λ y. z.answer y ∙ ap (choice s) q;
    })

pub select_rule : {c n : ℕ} {m m' : List ℕ} (k time : ℕ) (d : List Key) (w : Scanned) (t : Scanner) {h : Holder} {u : Rule}
    → ((M : Machine) → m ≡ encode M → Fits c n M → Holding h (state_of k M)) → ((M : Machine) → m ≡ encode M → Fits c n M → Scanning k time t (state_of k M))
    → Scans c n m m' d w (λ (M : Machine). scan_by t M.contexts (cpu_at M k).queue)
    → ((s : State) → Holding h s → (M : Machine) → m' ≡ encode M → Fits c n M → u ≡ rule_of s false (found M.contexts w d))
    → (M : Machine) → m ≡ encode M → Fits c n M → u ≡ rule_of (state_of k M) false (scanned k time (state_of k M))
select_rule k time d w t ho hs a g M e o =
    let s = state_of k M
    in let z = a.scans M e o
    in g s (ho M e o) (with_contexts (scan_by t M.contexts (cpu_at M k).queue).contexts M) z.after z.fits
    ∙ ap (rule_of s false) (z.same ∙ scan_is k time t s (hs M e o))
