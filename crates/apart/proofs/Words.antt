-- The words of a CPU's block name what the CPU names. Assumes nothing.
use Rattle.std.specs.Prelude.{if◌then◌else◌, None, Option, Some}
use mathlib.Core.Path.{◌≡◌, refl, sym, ap, ◌∙◌, subst}
use mathlib.Core.Bool.{Bool, true, false, not, ◌&&◌, ◌||◌}
use mathlib.Core.List.{List, [], ◌∷◌, ◌++◌}
use Prim.Native.Nat.{ℕ, zero, suc, ◌+◌, ◌-◌, ◌<◌, ◌≤◌}
use native.Mathlib.Omega.{arith}
use Rattle.std.specs.List.{list_any}
use lib.Dec.{eqb}
use borrow.Author.Tests.{eq-eqb, ne_eqb, eqb-true, eqb-false}
use Rattle.columns.proofs.Among.{none_among}
use lib.ListN.{length, get_or, take, drop, length-map}
use Rattle.columns.specs.Common.{every, mark}
use Rattle.columns.proofs.Tests.{by_test}
use Rattle.columns.proofs.Tabulate.{get_d_map}
use Rattle.entries.specs.declared.Entry.{Entry}
use Rattle.entries.specs.declared.Timer.{Timer}
use Rattle.cpu_stats.specs.Words.{stats_words}
use Rattle.percpu.specs.Cpu.{Cpu}
use Rattle.percpu.specs.Words.{block_words}
use Rattle.percpu.specs.Layout.{counts, cpu_words, entry_at, timer_at, no_entry, no_timer, length_cpu_words}
use Rattle.percpu.specs.Places.{queue_count, timers_count, local_count, ipi_count, entry_context_ref_column, timer_context_ref_column, local_wakeup_list_column, ipi_context_wakeup_list_column, block_size}
use Rattle.percpu.proofs.Read.{entry_is, timer_is, local_is, ipi_is}
use Rattle.answer.specs.declared.Answer.{Answer}
use Rattle.machine.specs.LookUp.{get_percpu_block}
use Rattle.machine.specs.Machine.{Machine, cpu_at}
use Rattle.machine.specs.Encode.{encode, cpu_place}
use Rattle.machine.specs.Shape.{CpuFits, Fits, Image}
use Rattle.machine.proofs.Places.{lent_is}
use Rattle.model.specs.Steal.{member, contexts_of}
use Rattle.model_local.specs.Names.{names, timed_contexts, is_named}
use Rattle.model_local.specs.Apart.{are_apart}
use Rattle.apart.specs.Words.{has_seat, is_listed, is_named_in, Counted}
use Rattle.apart.specs.Answer.{apart_answer}

not_not : (b : Bool) → not (not b) ≡ b
not_not true = refl
not_not false = refl

eqb_swap : (a b : ℕ) → eqb a b ≡ eqb b a
eqb_swap a b = by_test (eqb a b) (λ t. let e = eqb-true a b t in t ∙ sym (eq-eqb b a (sym e))) (λ t. t ∙ sym (ne_eqb b a (λ e. eqb-false a b t (sym e))))

-- x, as the loop has it, is named by both, or is not
module _ (one other : List ℕ) (x w : ℕ) (e : w ≡ x) (b : Bool) (f : b ≡ (is_named_in one w && is_named_in other w)) where
  pub found : b ≡ true → not (is_named_in one x && is_named_in other x) ≡ false
  found t = subst (λ (y : ℕ). not (is_named_in one y && is_named_in other y) ≡ false) e (ap not (sym f ∙ t))

  pub not_found : b ≡ false → not (is_named_in one x && is_named_in other x) ≡ true
  not_found t = subst (λ (y : ℕ). not (is_named_in one y && is_named_in other y) ≡ true) e (ap not (sym f ∙ t))

-- among n words of the block, as `contains` answers
module _ (b : List ℕ) (start : ℕ) {n : ℕ} (count x : ℕ) where
  pub listed_among : start + n ≤ length b → n ≡ count → {r : Bool} → r ≡ list_any (λ (y : ℕ). eqb y x) (take (start + n - start) (drop start b))
      → r ≡ not (every (λ (i : ℕ). not (eqb x (get_or b (start + i) 0))) count)
  listed_among h e {r} f =
      f ∙ sym (not_not _)
      ∙ ap not (none_among (λ (y : ℕ). eqb y x) b start n h ∙ (λ j. every (λ (i : ℕ). not (eqb_swap (get_or b (start + i) 0) x j)) (e j)))

-- the words of a list
abbrev absent : ℕ → (ℕ → ℕ) → ℕ → Bool
absent x f n = every (λ (i : ℕ). not (eqb x (f i))) n

first_apart : (g : ℕ → Bool) (n : ℕ) → every g (suc n) ≡ (g zero && every (λ (i : ℕ). g (suc i)) n)
unfolding every
first_apart g zero = by_test (g zero) (λ t. rw t) (λ t. rw t)
first_apart g (suc n) =
    ap (λ (b : Bool). b && g (suc n)) (first_apart g n) ∙ by_test (g zero) (λ t. rw t) (λ t. rw t)

listed_member : (x : ℕ) (l : List ℕ) (f : ℕ → ℕ) → ((i : ℕ) → i < length l → f i ≡ get_or l i 0) → not (absent x f (length l)) ≡ member x l
unfolding every
listed_member x [] f h = refl
listed_member x (y ∷ ys) f h =
    ap not (first_apart (λ (i : ℕ). not (eqb x (f i))) (length ys))
    ∙ rw (h zero (omega arith)) (by_test (eqb x y) (λ t. rw t) (λ t. rw t (listed_member x ys (λ (i : ℕ). f (suc i)) (λ i g. h (suc i) (omega arith)))))

or_if : (a b : Bool) → (if a then true else b) ≡ (a || b)
or_if true b = refl
or_if false b = refl

or_assoc : (a b c : Bool) → ((a || b) || c) ≡ (a || (b || c))
or_assoc true b c = refl
or_assoc false b c = refl

member_append : (x : ℕ) (l m : List ℕ) → member x (l ++ m) ≡ (member x l || member x m)
member_append x [] m = refl
member_append x (y ∷ ys) m = ap (λ (b : Bool). eqb x y || b) (member_append x ys m) ∙ sym (or_assoc (eqb x y) (member x ys) (member x m))

module _ (n : ℕ) (p : Cpu) (o : CpuFits n p) where
  abbrev b : List ℕ
  b = cpu_words p

  pub counted : Counted (cpu_words p)
  unfolding cpu_words counts block_words stats_words
  counted = record { size = length_cpu_words p; queue = o.queue; timers = o.timers; local = o.local; ipi = o.ipi }

  queued : (x : ℕ) → is_listed b queue_count entry_context_ref_column x ≡ member x (contexts_of p.queue)
  unfolding is_listed cpu_words counts block_words stats_words entry_at
  queued x =
      let l = contexts_of p.queue in
      let c : length l ≡ length p.queue = length-map p.queue (λ (e : Entry). e.context_ref) in
      ap (λ (n : ℕ). not (absent x (λ (i : ℕ). get_or b (entry_context_ref_column + i) 0) n)) (sym c)
      ∙ listed_member x l (λ (i : ℕ). get_or b (entry_context_ref_column + i) 0)
      (λ i h. let g : i < length p.queue = rw c at h in
      ap (λ (e : Entry). e.context_ref) (entry_is p i g o.queue) ∙ sym (get_d_map (λ (e : Entry). e.context_ref) p.queue i no_entry g))

  timed : (x : ℕ) → is_listed b timers_count timer_context_ref_column x ≡ member x (timed_contexts p.timers)
  unfolding is_listed cpu_words counts block_words stats_words timer_at
  timed x =
      let l = timed_contexts p.timers in
      let c : length l ≡ length p.timers = length-map p.timers (λ (t : Timer). t.context_ref) in
      ap (λ (n : ℕ). not (absent x (λ (i : ℕ). get_or b (timer_context_ref_column + i) 0) n)) (sym c)
      ∙ listed_member x l (λ (i : ℕ). get_or b (timer_context_ref_column + i) 0)
      (λ i h. let g : i < length p.timers = rw c at h in
      ap (λ (t : Timer). t.context_ref) (timer_is p i g o.timers) ∙ sym (get_d_map (λ (t : Timer). t.context_ref) p.timers i no_timer g))

  listed_here : (x : ℕ) → is_listed b local_count local_wakeup_list_column x ≡ member x p.local_wakeup_list
  unfolding is_listed cpu_words counts block_words stats_words
  listed_here x = listed_member x p.local_wakeup_list (λ (i : ℕ). get_or b (local_wakeup_list_column + i) 0) (λ i h. local_is p i h o.local)

  listed_by_interrupt : (x : ℕ) → is_listed b ipi_count ipi_context_wakeup_list_column x ≡ member x p.ipi_context_wakeup_list
  unfolding is_listed cpu_words counts block_words stats_words
  listed_by_interrupt x = listed_member x p.ipi_context_wakeup_list (λ (i : ℕ). get_or b (ipi_context_wakeup_list_column + i) 0) (λ i h. ipi_is p i h o.ipi)

  seated : (x : ℕ) → has_seat b x ≡ (if eqb x p.block.current_ctxt then true else if eqb x p.block.sched_ctxt then true else eqb x p.block.idle_ctxt)
  unfolding has_seat cpu_words block_words stats_words
  seated x = refl

  pub named_is : (x : ℕ) → is_named_in b x ≡ is_named (names p) x
  unfolding is_named_in is_named
  named_is x =
      let q = contexts_of p.queue in
      let t = timed_contexts p.timers in
      let l = p.local_wakeup_list in
      let r = p.ipi_context_wakeup_list in
      rw (seated x, queued x, timed x, listed_here x, listed_by_interrupt x, member_append x q (t ++ (l ++ r)), member_append x t (l ++ r), member_append x l r)
      (chain (eqb x p.block.current_ctxt) (eqb x p.block.sched_ctxt) (eqb x p.block.idle_ctxt) (member x q) (member x t) (member x l) (member x r))
    where
      chain : (a b c d e f g : Bool)
          → (if (if a then true else if b then true else c) then true else if d then true else if e then true else if f then true else g) ≡ (a || (b || (c || (d || (e || (f || g))))))
      chain true b c d e f g = refl
      chain false true c d e f g = refl
      chain false false true d e f g = refl
      chain false false false true e f g = refl
      chain false false false false true f g = refl
      chain false false false false false true g = refl
      chain false false false false false false g = refl

-- the blocks that the code lends from the places `at` and `to`
module _ {c n : ℕ} {m : List ℕ} where
  pub lent_counted : (k : ℕ) {at : ℕ} → at ≡ cpu_place n k → k < c → Image c n m → Counted (take (at + block_size - at) (drop at m))
  lent_counted k z h i = subst Counted (sym (lent_is m k z h i.M i.eq i.fits)) (counted n (cpu_at i.M k) (i.fits.cpu k h))

  pub apart_is : (a b : ℕ) {at to : ℕ} → at ≡ cpu_place n a → to ≡ cpu_place n b → a < c → b < c → (M : Machine) → m ≡ encode M → Fits c n M → (r : Bool)
      → r ≡ every (λ (x : ℕ). not (is_named_in (take (at + block_size - at) (drop at m)) x && is_named_in (take (to + block_size - to) (drop to m)) x)) n → r ≡ are_apart M a b
  unfolding are_apart
  apart_is a b {at} {to} z w h g M e o r f =
      f
      ∙ (λ j. every (λ (x : ℕ).
      not ((ap (λ (l : List ℕ). is_named_in l x) (lent_is m a z h M e o) ∙ named_is n (cpu_at M a) (o.cpu a h) x) j
      && (ap (λ (l : List ℕ). is_named_in l x) (lent_is m b w g M e o) ∙ named_is n (cpu_at M b) (o.cpu b g) x) j)) (sym o.contexts j))

-- the answer, by the look-ups of the CPUs
module _ (M : Machine) (one other : ℕ) (p : Option ℕ) (f : p ≡ get_percpu_block M one) where
  pub absent_answer : (a : Answer) → p ≡ None → a ≡ record { refusal = 5; result = 0; interrupt = 0; rule = 0 } → a ≡ apart_answer M (get_percpu_block M one) (get_percpu_block M other)
  unfolding apart_answer
  absent_answer a e g = rw (sym f ∙ e) g

  module _ (q : Option ℕ) (g : q ≡ get_percpu_block M other) (k : ℕ) (e : p ≡ Some k) where
    pub other_absent : (a : Answer) → q ≡ None → a ≡ record { refusal = 5; result = 0; interrupt = 0; rule = 0 } → a ≡ apart_answer M (get_percpu_block M one) (get_percpu_block M other)
    unfolding apart_answer
    other_absent a d h = rw (sym f ∙ e, sym g ∙ d) h

    pub both_present : (l : ℕ) (r : Bool) → q ≡ Some l → r ≡ are_apart M k l
        → record { refusal = 0; result = mark r; interrupt = 0; rule = 0 } ≡ apart_answer M (get_percpu_block M one) (get_percpu_block M other)
    unfolding apart_answer
    both_present l r d h = rw (sym f ∙ e, sym g ∙ d) (λ j. record { refusal = 0; result = mark (h j); interrupt = 0; rule = 0 })
