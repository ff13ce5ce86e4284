-- One entry moved. Assumes nothing.
use Rattle.columns.proofs.Tests.{never}
use Rattle.std.specs.Prelude.{Option, Some}
use mathlib.Core.Path.{◌≡◌, refl, sym, ap, ◌∙◌, subst}
use mathlib.Core.Bool.{Bool, true, false}
use mathlib.Core.List.{List}
use mathlib.Core.Logic.{◌≢◌}
use Prim.Native.Nat.{ℕ, ◌+◌, ◌<◌}
use Rattle.columns.specs.Common.{fold, All}
use Rattle.columns.proofs.Tests.{by_test}
use Rattle.context.specs.declared.Context.{Context}
use Rattle.entries.specs.declared.Entry.{Entry}
use Rattle.percpu.specs.declared.PercpuBlock.{PercpuBlock}
use Rattle.percpu.specs.Cpu.{Cpu}
use Rattle.percpu.specs.With.{cpu_total_weight}
use Rattle.machine.specs.Machine.{Machine, cpu_at, context_at}
use Rattle.machine.specs.Encode.{encode}
use Rattle.machine.specs.Shape.{ContextFits, EntryFits, Fits, Image}
use Rattle.model.specs.State.{State, state_of, on_cpu, put_context, insert_entry}
use Rattle.model.specs.Steal.{Moving, moved, first_wins, give_up, move_entry}
use Rattle.stages.specs.Stage.{Stage, Staged}
use Rattle.stages.proofs.Compose.{stage_as, stage_then}
use Rattle.steal_judge.specs.declared.Candidates.{Candidates}
use Rattle.steal_judge.specs.declared.Candidates.TheVariants.{Nothing, Single, Pair}
use Rattle.steal_judge.specs.Names.{entries_of}
use Rattle.steal.specs.Moves.{moving_of, Moves, taken_in, winner_in}
use Rattle.steal.proofs.Victims.{victim_then}
use Rattle.context.specs.Key.{with_new_key, entry_of}

-- the record that is queued, and its entry
pub keyed_fits : {c : ℕ} {r : Context} (q : Context) → r ≡ with_new_key q → ContextFits c q → ContextFits c r
keyed_fits {c} q e f = subst (ContextFits c) (sym e) (record { cpu_id = f.cpu_id; prio = f.prio; rem_slice = f.rem_slice })

pub entry_fits : {n : ℕ} {r : Entry} (q : Context) (e : Entry) → r ≡ entry_of e.context_ref e.weight q → EntryFits n e → EntryFits n r
entry_fits {n} q e z f = subst (EntryFits n) (sym z) (record { name = f.name; light = f.light; heavy = f.heavy })

module _ {c n k : ℕ} {m m1 : List ℕ} (e : Entry) (q : Context) where
  pub queued : {m2 : List ℕ} {x : ℕ} {keyed : Context} {new : Entry} {full : Bool} → k < c → Staged c n k m m1 false (λ (s : State). put_context x keyed s)
      → Staged c n k m1 m2 full (λ (s : State). insert_entry new s) → x ≡ e.context_ref → keyed ≡ with_new_key q → new ≡ entry_of e.context_ref e.weight q
      → Staged c n k m m2 full (λ (s : State). insert_entry (entry_of e.context_ref e.weight q) (put_context e.context_ref (with_new_key q) s))
  queued h a b x y z = stage_as (stage_then h a b) (λ M i o. (λ j. insert_entry (z j) (put_context (x j) (y j) (state_of k M)), λ t u. refl))

  module _ (runs : Bool) (w : Option ℕ) where
    pub first_in : {x : ℕ} {r : Bool} → Staged c n k m m1 false (λ (s : State). put_context x q s) → x ≡ e.context_ref → r ≡ first_wins runs w → r ≡ true
        → Stage c n k m m1 false (Some x) (λ (s : State). taken_in runs w e q s) (λ (s : State). winner_in runs w e)
    unfolding taken_in
    first_in a x t u =
        let z : first_wins runs w ≡ true = sym t ∙ u in
        stage_as a (λ M i o. (rw z (ap (λ (y : ℕ). put_context y q (state_of k M)) x), λ l y. rw z (ap Some x)))

    pub later_in : {r full : Bool} → Staged c n k m m1 full (λ (s : State). insert_entry (entry_of e.context_ref e.weight q) (put_context e.context_ref (with_new_key q) s))
        → r ≡ first_wins runs w → r ≡ false → Stage c n k m m1 full w (λ (s : State). taken_in runs w e q s) (λ (s : State). winner_in runs w e)
    unfolding taken_in
    later_in a t u =
        let z : first_wins runs w ≡ false = sym t ∙ u in
        stage_as a (λ M i o. (rw z, λ l y. rw z))

    -- no room, whoever is said to have won
    pub later_full : {r : Bool} {v : Option ℕ} → Staged c n k m m1 true (λ (s : State). insert_entry (entry_of e.context_ref e.weight q) (put_context e.context_ref (with_new_key q) s))
        → r ≡ first_wins runs w → r ≡ false → Stage c n k m m1 true v (λ (s : State). taken_in runs w e q s) (λ (s : State). winner_in runs w e)
    unfolding taken_in
    later_full a t u =
        let z : first_wins runs w ≡ false = sym t ∙ u in
        stage_as a (λ M i o. (rw z, λ l y. never l))

-- the record as it was read, moved
pub stolen_fits : {c n : ℕ} {m : List ℕ} {r : Context} (here there weight : ℕ) (q : Context) (x : ℕ) (i : Image c n m) → x < n → q ≡ context_at i.M.contexts x → r ≡ moved here there weight q → ContextFits c r
stolen_fits {c} here there weight q x i h z e =
    let j : ContextFits c q = subst (ContextFits c) (sym z) (i.fits.context x h) in
    subst (ContextFits c) (sym e) (record { cpu_id = j.cpu_id; prio = j.prio; rem_slice = j.rem_slice })

pub stolen_as : {r : Context} (b b' : PercpuBlock) (weight : ℕ) (q : Context) (M : Machine) (k t x : ℕ) → r ≡ moved b.v b'.v weight q → b ≡ (cpu_at M k).block → b' ≡ (cpu_at M t).block
    → q ≡ context_at M.contexts x → r ≡ moved (cpu_at M k).block.v (cpu_at M t).block.v weight (context_at M.contexts x)
stolen_as b b' weight q M k t x e i j l = e ∙ (λ y. moved (i y).v (j y).v weight (l y))

-- the move of one entry
module _ (runs : Bool) (w : Option ℕ) (e : Entry) (k t : ℕ) (M : Machine) (q : Context) where
  abbrev heavier : State → State
  heavier s = on_cpu (λ (p : Cpu). cpu_total_weight (p.block.total_weight + e.weight) p) s

  module _ (z : q ≡ moved (cpu_at M k).block.v (cpu_at M t).block.v e.weight (context_at M.contexts e.context_ref)) where
    pub moved_state : (move_entry runs (moving_of k t w M) e).state ≡ taken_in runs w e q (heavier (state_of k M))
    unfolding move_entry taken_in
    moved_state = by_test (first_wins runs w) (λ f. rw (f, z)) (λ f. rw (f, z))

  pub moved_victim : (move_entry runs (moving_of k t w M) e).victim ≡ give_up e (cpu_at M t)
  unfolding move_entry
  moved_victim = by_test (first_wins runs w) (λ f. rw f) (λ f. rw f)

  pub moved_winner : {r : Option ℕ} → r ≡ winner_in runs w e → r ≡ (move_entry runs (moving_of k t w M) e).winner
  unfolding move_entry
  moved_winner i = by_test (first_wins runs w) (λ f. i ∙ rw f) (λ f. i ∙ rw f)

pub entry_moved : {c n k t : ℕ} {m m1 m2 m3 : List ℕ} {full : Bool} {r w : Option ℕ} (runs : Bool) (e : Entry) (x : ℕ) (q : Context) → k < c → t ≢ k → x ≡ e.context_ref
    → ((M : Machine) → m ≡ encode M → Fits c n M → q ≡ moved (cpu_at M k).block.v (cpu_at M t).block.v e.weight (context_at M.contexts x))
    → Staged c n t m m1 false (λ (s : State). on_cpu (λ (p : Cpu). give_up e p) s)
    → Staged c n k m1 m2 false (λ (s : State). on_cpu (λ (p : Cpu). cpu_total_weight (p.block.total_weight + e.weight) p) s)
    → Stage c n k m2 m3 full r (λ (s : State). taken_in runs w e q s) (λ (s : State). winner_in runs w e)
    → Moves c n k t m m3 full w r (λ (v : Moving). move_entry runs v e)
entry_moved {k = k} {t = t} {r = r} {w = w} runs e x q h d i z a b s =
    victim_then (λ (p : Cpu). give_up e p) (λ (v : Moving). move_entry runs v e) d a (stage_then h b s)
    (λ M u o.
    let y : q ≡ moved (cpu_at M k).block.v (cpu_at M t).block.v e.weight (context_at M.contexts e.context_ref) =
    z M u o ∙ ap (λ (j : ℕ). moved (cpu_at M k).block.v (cpu_at M t).block.v e.weight (context_at M.contexts j)) i in
    (moved_state runs w e k t M q y, moved_victim runs w e k t M q, λ l. moved_winner runs w e k t M q l))

-- an insertion that finds no room is not undone
pub move_stays_full : (runs : Bool) (e : Entry) (v : Moving) → v.state.no_room ≡ true → (move_entry runs v e).state.no_room ≡ true
unfolding move_entry
move_stays_full runs e v h = by_test (first_wins runs v.winner) (λ f. rw (f, h)) (λ f. rw (f, h))

-- the entries, by their number
module _ {c n k t : ℕ} {m m' : List ℕ} {full : Bool} {w w' : Option ℕ} (runs : Bool) (got : Candidates) where
  pub moved_nothing : got ≡ Nothing → Moves c n k t m m' full w w' (λ (v : Moving). v) → Moves c n k t m m' full w w' (λ (v : Moving). fold (move_entry runs) v (entries_of got))
  moved_nothing z h = subst (λ (g : Candidates). Moves c n k t m m' full w w' (λ (v : Moving). fold (move_entry runs) v (entries_of g))) (sym z) h

  pub moved_single : {a : Entry} → got ≡ Single a → Moves c n k t m m' full w w' (λ (v : Moving). move_entry runs v a) → Moves c n k t m m' full w w' (λ (v : Moving). fold (move_entry runs) v (entries_of got))
  moved_single z h = subst (λ (g : Candidates). Moves c n k t m m' full w w' (λ (v : Moving). fold (move_entry runs) v (entries_of g))) (sym z) h

  pub moved_pair : {a b : Entry} → got ≡ Pair a b → Moves c n k t m m' full w w' (λ (v : Moving). move_entry runs (move_entry runs v a) b) → Moves c n k t m m' full w w' (λ (v : Moving). fold (move_entry runs) v (entries_of got))
  moved_pair z h = subst (λ (g : Candidates). Moves c n k t m m' full w w' (λ (v : Moving). fold (move_entry runs) v (entries_of g))) (sym z) h

pub fits_single : {n : ℕ} {got : Candidates} {a : Entry} → got ≡ Single a → All (EntryFits n) (entries_of got) → EntryFits n a
fits_single {n} z h = (subst (λ (g : Candidates). All (EntryFits n) (entries_of g)) z h).0

pub fits_pair : {n : ℕ} {got : Candidates} {a b : Entry} → got ≡ Pair a b → All (EntryFits n) (entries_of got) → (EntryFits n a) × (EntryFits n b)
fits_pair {n} z h = let y = subst (λ (g : Candidates). All (EntryFits n) (entries_of g)) z h in (y.0, y.1.0)
