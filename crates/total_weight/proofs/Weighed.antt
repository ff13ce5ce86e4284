-- What the code reads and adds is the weight of the CPU. Assumes nothing.
use Rattle.std.specs.Prelude.{None, Option, Some}
use mathlib.Core.Path.{◌≡◌, refl, subst, sym, ap, ◌∙◌}
use mathlib.Core.Bool.{true, false}
use mathlib.Core.List.{List}
use Prim.Native.Nat.{ℕ, ◌+◌, ◌-◌, ◌<◌, ◌≤◌}
use native.Mathlib.Omega.{arith}
use lib.ListN.{get_or, take, drop}
use Rattle.context.specs.declared.Context.{Context}
use Rattle.weights.specs.Weights.{weight}
use Rattle.cpu_stats.specs.Words.{stats_words}
use Rattle.percpu.specs.Words.{block_words}
use Rattle.percpu.specs.Layout.{cpu_words}
use Rattle.percpu.specs.Places.{block_size, queue_count, sched_ctxt_place}
use Rattle.answer.specs.declared.Answer.{Answer}
use Rattle.machine.specs.LookUp.{get_percpu_block}
use Rattle.machine.specs.Machine.{Machine, context_at, cpu_at}
use Rattle.machine.specs.Encode.{encode, cpu_place}
use Rattle.machine.specs.Shape.{Image, Fits}
use Rattle.machine.proofs.Places.{lent_is, word_from}
use Rattle.machine.proofs.LookUps.{block_word}
use Rattle.total_weight.specs.TotalWeight.{sum, queue_weights, items_of, total_weight_of, total_weight_answer}
use Rattle.total_weight.specs.Words.{weight_words, Light}
use Rattle.total_weight.proofs.Adding.{is_light, words_are}

module _ {c n : ℕ} {m : List ℕ} (k : ℕ) {at : ℕ} (z : at ≡ cpu_place n k) (h : k < c) where
  pub light : Image c n m → Light (take (at + block_size - at) (drop at m))
  light i = subst Light (sym (lent_is m k z h i.M i.eq i.fits)) (is_light n (cpu_at i.M k) (i.fits.cpu k h))

  sched_is : (M : Machine) → m ≡ encode M → Fits c n M → (x : ℕ) → x ≡ get_or m (at + sched_ctxt_place) 0 → x ≡ (cpu_at M k).block.sched_ctxt
  unfolding cpu_words block_words stats_words
  sched_is M e o x f = word_from m 2 z f ∙ block_word m k M e o 2 h (omega arith)

  pub sched_below : Image c n m → (x : ℕ) → x ≡ get_or m (at + sched_ctxt_place) 0 → x < n
  sched_below i x f = let y = sched_is i.M i.eq i.fits x f in rw y (i.fits.cpu k h).sched

  queue_is : (M : Machine) → m ≡ encode M → Fits c n M → (queued : ℕ)
      → queued ≡ weight_words (take (at + block_size - at) (drop at m)) (get_or (take (at + block_size - at) (drop at m)) queue_count 0) → queued ≡ sum (queue_weights (cpu_at M k).queue)
  queue_is M e o queued f =
      f ∙ ap (λ (b : List ℕ). weight_words b (get_or b queue_count 0)) (lent_is m k z h M e o) ∙ words_are n (cpu_at M k) (o.cpu k h)

  -- q: the record of the context in charge
  module _ (M : Machine) (e : m ≡ encode M) (o : Fits c n M) (queued x : ℕ) (q : Context)
      (f : queued ≡ weight_words (take (at + block_size - at) (drop at m)) (get_or (take (at + block_size - at) (drop at m)) queue_count 0))
      (g : x ≡ get_or m (at + sched_ctxt_place) 0) (l : q ≡ context_at M.contexts x) where
    in_charge : q ≡ context_at M.contexts (cpu_at M k).block.sched_ctxt
    in_charge = l ∙ ap (λ (y : ℕ). context_at M.contexts y) (sched_is M e o x g)

    pub active_counts : q.is_active ≡ true → (w : ℕ) → w ≡ weight q.prio → queued + w ≡ total_weight_of M k
    unfolding total_weight_of items_of
    active_counts a w y =
        let s : queued ≡ sum (queue_weights (cpu_at M k).queue) = queue_is M e o queued f in
        let p : weight q.prio ≡ weight (context_at M.contexts (cpu_at M k).block.sched_ctxt).prio = ap (λ (b : Context). weight b.prio) in_charge in
        rw (sym (ap (λ (b : Context). b.is_active) in_charge) ∙ a) (omega (arith, s, p, y))

    pub idle_not_counted : q.is_active ≡ false → queued ≡ total_weight_of M k
    unfolding total_weight_of items_of
    idle_not_counted a = rw (sym (ap (λ (b : Context). b.is_active) in_charge) ∙ a) (queue_is M e o queued f)

-- the priority of a record that was read
pub prio_below : {c n : ℕ} {m : List ℕ} (i : Image c n m) (x : ℕ) (q : Context) → x < n
    → ((M : Machine) → m ≡ encode M → Fits c n M → q ≡ context_at M.contexts x) → q.prio < 40
prio_below i x q h f = let p : (context_at i.M.contexts x).prio ≤ 39 = (i.fits.context x h).prio in
    let e : q.prio ≡ (context_at i.M.contexts x).prio = ap (λ (b : Context). b.prio) (f i.M i.eq i.fits) in
    omega (arith, p, e)

-- the answer, by the look-up of the CPU
module _ (M : Machine) (cpu : ℕ) (p : Option ℕ) (f : p ≡ get_percpu_block M cpu) where
  pub absent_answer : (a : Answer) → p ≡ None → a ≡ record { refusal = 5; result = 0; interrupt = 0; rule = 0 } → a ≡ total_weight_answer M (get_percpu_block M cpu)
  unfolding total_weight_answer
  absent_answer a e g = rw (sym f ∙ e) g

  pub present_answer : (k r : ℕ) → p ≡ Some k → r ≡ total_weight_of M k → record { refusal = 0; result = r; interrupt = 0; rule = 0 } ≡ total_weight_answer M (get_percpu_block M cpu)
  unfolding total_weight_answer
  present_answer k r e g = rw (sym f ∙ e) (λ j. record { refusal = 0; result = g j; interrupt = 0; rule = 0 })
