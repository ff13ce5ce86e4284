-- One timer to a context, in an image and in its machine. Assumes nothing.
use mathlib.Core.Path.{◌≡◌, refl, sym, ap, ◌∙◌, subst}
use mathlib.Core.Bool.{true, not}
use mathlib.Core.List.{List, [], ◌∷◌}
use mathlib.Core.Logic.{inl, inr}
use Prim.Native.Nat.{ℕ, zero, suc, ◌<◌, ◌≤◌}
use native.Mathlib.Omega.{arith}
use lib.Dec.{eqb, ltb}
use lib.ListN.{length, get_or}
use borrow.Author.Tests.{eqb-true, eqb-false, ne_eqb, eq-eqb, ltb-true, ltb-false}
use Rattle.columns.specs.Common.{In}
use Rattle.columns.proofs.Tests.{every_at}
use Rattle.columns.proofs.Tabulate.{length_tabulate, get_d_tabulate}
use Rattle.cpu_stats.specs.Words.{stats_words}
use Rattle.entries.specs.declared.Timer.{Timer}
use Rattle.entries.specs.Order.{sooner}
use Rattle.entries.specs.Sorted.{Sorted}
use Rattle.entries.proofs.Ordered.{timers_ordered}
use Rattle.percpu.specs.Cpu.{Cpu}
use Rattle.percpu.specs.Words.{block_words}
use Rattle.percpu.specs.Layout.{cpu_words, cpu_of, counts, timer_at, no_timer}
use Rattle.percpu.proofs.Read.{timer_is}
use Rattle.table.proofs.Rising.{rises}
use Rattle.machine.specs.Machine.{Machine, cpu_at}
use Rattle.image_structure.specs.Structure.{is_first_timer, timers_differ}
use Rattle.model.specs.Accepted.{Call, outcome}
use Rattle.model.proofs.Cases.{by_test, never}
use Rattle.model_timers.specs.Timers.{Alone}
use Rattle.model_timers.proofs.Newest.{alone_after, others_after}
use Rattle.admission.proofs.Soundness.{in_at}
use Rattle.model_leaves.proofs.Words.{every_of}

item_in : {A : Type 0} (d : A) (l : List A) (i : ℕ) → i < length l → In (get_or l i d) l
item_in d [] i h = absurd (omega arith)
item_in d (x ∷ xs) zero h = inl refl
item_in d (x ∷ xs) (suc i) h = inr (item_in d xs i (omega arith))

-- the words of a CPU
pub words_differ : (p : Cpu) → length p.timers ≤ 64 → Sorted sooner p.timers → Alone p.timers → timers_differ (cpu_words p) ≡ true
unfolding timers_differ is_first_timer cpu_words block_words stats_words counts
words_differ p r s a =
    let l : List Timer = p.timers in
    every_of (is_first_timer (cpu_words p)) (length l)
    (λ i h. every_of _ i
    (λ j g.
    let k : j < length l = omega arith in
    rw (timer_is p j k r, timer_is p i h r)
    (ap not (ne_eqb (get_or l j no_timer).context_ref (get_or l i no_timer).context_ref
    (λ e.
    let z : get_or l j no_timer ≡ get_or l i no_timer = a _ _ (item_in no_timer l j k) (item_in no_timer l i h) e in
    let t : sooner (get_or l i no_timer) (get_or l i no_timer) ≡ true = rw z at (rises no_timer sooner l j i s g h) in
    never t (timers_ordered.asym _ _ t))))))

-- the CPU found in words
module _ (b : List ℕ) (e : timers_differ b ≡ true) where
  abbrev timers : List Timer
  timers = (cpu_of b).timers

  -- the later of two timers is the first of its context
  first : (i j : ℕ) → j < i → i < get_or b 22 0 → (timer_at b j).context_ref ≡ (timer_at b i).context_ref → ⊥
  unfolding timers_differ is_first_timer
  first i j g h c =
      let t : not (eqb (timer_at b j).context_ref (timer_at b i).context_ref) ≡ true = every_at _ i j (every_at (is_first_timer b) (get_or b 22 0) i e h) g in
      never {b = true} refl (sym t ∙ ap not (eq-eqb _ _ c))

  pub found_alone : Alone timers
  unfolding cpu_of
  found_alone t u x y c =
      let (i, h, p) = in_at t no_timer timers x in
      let (j, g, q) = in_at u no_timer timers y in
      let n : length timers ≡ get_or b 22 0 = length_tabulate (get_or b 22 0) (timer_at b) in
      let p' : t ≡ timer_at b i = p ∙ get_d_tabulate (get_or b 22 0) i (timer_at b) no_timer (omega arith) in
      let q' : u ≡ timer_at b j = q ∙ get_d_tabulate (get_or b 22 0) j (timer_at b) no_timer (omega arith) in
      let d : (timer_at b i).context_ref ≡ (timer_at b j).context_ref = sym (ap (λ (w : Timer). w.context_ref) p') ∙ c ∙ ap (λ (w : Timer). w.context_ref) q' in
      by_test (eqb i j) (λ z. p' ∙ ap (timer_at b) (eqb-true i j z) ∙ sym q')
      (λ z. by_test (ltb i j) (λ w. absurd (first j i (ltb-true i j w) (omega arith) d))
      (λ w. absurd (first i j (let v = ltb-false i j w in let o = eqb-false i j z in apart i j v o) (omega arith) (sym d))))
    where
      apart : (i j : ℕ) → j ≤ i → (i ≡ j → ⊥) → j < i
      apart i j v o = by_test (ltb j i) (λ t. ltb-true j i t) (λ t. absurd (o (let w = ltb-false j i t in omega arith)))

-- every CPU, after operations 1 to 3
pub decision_alone : (call : Call) (k time : ℕ) (M : Machine) → k < length M.cpus → ((j : ℕ) → Alone (cpu_at M j).timers) → (j : ℕ) → Alone (cpu_at (outcome call k time M).machine j).timers
decision_alone call k time M b a j =
    by_test (eqb j k) (λ e. rw (eqb-true j k e) (alone_after call k time M b (a k)))
    (λ e. subst Alone (sym (others_after call k time M b j (eqb-false j k e))) (a j))
