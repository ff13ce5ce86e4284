-- A context that is on no CPU, from what the code's tests said. Assumes nothing.
use Rattle.context_ops.proofs.Resolved.{first_found, second_found}
use Rattle.std.specs.Prelude.{None, Option, Some, ok_or, Err, Ok, Result}
use mathlib.Core.Path.{◌≡◌, refl, sym, ap, ◌∙◌}
use mathlib.Core.Bool.{Bool, true, false}
use mathlib.Core.List.{List}
use Prim.Native.Nat.{ℕ, ◌+◌, ◌-◌, ◌<◌, ◌≤◌}
use native.Mathlib.Omega.{arith}
use lib.ListN.{length, get_or, take, drop}
use borrow.Author.Tests.{eq-eqb, ne_eqb}
use Rattle.columns.specs.Common.{every, mark}
use Rattle.columns.proofs.Tests.{by_test, every_no, every_next, every_end}
use Rattle.cpu_stats.specs.Words.{stats_words}
use Rattle.percpu.specs.Words.{block_words}
use Rattle.percpu.specs.Layout.{cpu_words}
use Rattle.percpu.specs.Places.{block_size, queue_count, sched_ctxt_place}
use Rattle.machine.specs.Machine.{Machine, cpu_at}
use Rattle.machine.specs.Encode.{encode, cpu_place}
use Rattle.machine.specs.Shape.{Image, Fits}
use Rattle.machine.specs.LookUp.{look_up, get_percpu_block}
use Rattle.machine.proofs.LookUps.{IsLive, live, IsPresent, present, block_word, present_word}
use Rattle.machine.proofs.Places.{lent_is}
use Rattle.refusal.specs.declared.Refusal.{Refusal}
use Rattle.refusal.specs.declared.Refusal.TheVariants.{Name}
use Rattle.candidate.specs.Candidate.{not_on, on_none, candidate, candidate_on, candidate_context}
use Rattle.candidate.specs.Words.{no_word_queued}
use Rattle.candidate.proofs.Reading.{counted, queue_is}

mark_none : (b : Bool) → mark b ≡ 0 → b ≡ false
mark_none true e = absurd (omega arith)
mark_none false e = refl

mark_some : (b : Bool) → (mark b ≡ 0 → ⊥) → b ≡ true
mark_some true n = refl
mark_some false n = absurd (n refl)

-- the block that begins at a place, as the code lends it
abbrev lent : List ℕ → ℕ → List ℕ
lent m at = take (at + block_size - at) (drop at m)

-- that of CPU k
module _ {c n : ℕ} {m : List ℕ} (k : ℕ) {at : ℕ} (z : at ≡ cpu_place n k) (h : k < c) where
  pub short_queue : Image c n m → get_or (lent m at) queue_count 0 ≤ 64
  short_queue i =
      let o = (i.fits.cpu k h).queue
      in rw (lent_is m k z h i.M i.eq i.fits, counted (cpu_at i.M k) o) o

  module _ (x : ℕ) (M : Machine) (e : m ≡ encode M) (o : Fits c n M) where
    sched_is : get_or m (at + sched_ctxt_place) 0 ≡ (cpu_at M k).block.sched_ctxt
    unfolding cpu_words block_words stats_words
    sched_is = rw z (block_word m k M e o 2 h (omega arith))

    present_is : get_or m at 0 ≡ mark (cpu_at M k).block.present
    present_is = rw z (present_word m k M e o h)

    pub absent_on : get_or m at 0 ≡ 0 → true ≡ not_on x (cpu_at M k)
    unfolding not_on
    absent_on t = rw (mark_none (cpu_at M k).block.present (sym present_is ∙ t))

    module _ (t : get_or m at 0 ≡ 0 → ⊥) where
      is_present : (cpu_at M k).block.present ≡ true
      is_present = mark_some (cpu_at M k).block.present (λ y. t (present_is ∙ y))

      pub in_charge_on : get_or m (at + sched_ctxt_place) 0 ≡ x → false ≡ not_on x (cpu_at M k)
      unfolding not_on
      in_charge_on y = rw (is_present, eq-eqb (cpu_at M k).block.sched_ctxt x (sym sched_is ∙ y))

      pub queued_on : (get_or m (at + sched_ctxt_place) 0 ≡ x → ⊥) → (r : Bool) → r ≡ no_word_queued x (lent m at) → r ≡ not_on x (cpu_at M k)
      unfolding not_on
      queued_on y r q =
          rw (is_present, ne_eqb (cpu_at M k).block.sched_ctxt x (λ s. y (sched_is ∙ s)))
          (q ∙ ap (no_word_queued x) (lent_is m k z h M e o) ∙ queue_is (cpu_at M k) (o.cpu k h).queue x)

-- the loop over the CPUs
module _ {c n : ℕ} (x : ℕ) (M : Machine) (o : Fits c n M) where
  abbrev pub off : ℕ → Bool
  off j = not_on x (cpu_at M j)

  pub one_on : (k : ℕ) → k < c → (r : Bool) → r ≡ not_on x (cpu_at M k) → r ≡ false → false ≡ on_none M x
  unfolding on_none
  one_on k h r e f = sym (every_no off (length M.cpus) k (omega (arith, o.cpus)) (sym e ∙ f))

  pub one_off : (k : ℕ) (r : Bool) → r ≡ not_on x (cpu_at M k) → r ≡ true → every off k ≡ true → every off (k + 1) ≡ true
  one_off k r e f g = every_next off k g (sym e ∙ f)

  pub all_off : (k : ℕ) → c ≤ k → k ≤ c → every off k ≡ true → true ≡ on_none M x
  unfolding on_none
  all_off k h g e = every_end off (length M.cpus) k (omega (arith, o.cpus)) (omega (arith, o.cpus)) e

-- the answer, from the look-ups
module _ (M : Machine) (cpu context : ℕ) (p : Option ℕ) (hp : p ≡ get_percpu_block M cpu) where
  pub absent_cpu : p ≡ None → Err 5 ≡ candidate M cpu context
  unfolding candidate candidate_on
  absent_cpu e = rw (← hp, e)

  module _ (k : ℕ) (ek : p ≡ Some k) (l : Option ℕ) (hl : l ≡ look_up M context) where
    pub gone_context : l ≡ None → Err 5 ≡ candidate M cpu context
    unfolding candidate candidate_on candidate_context
    gone_context e = rw (← hp, ek, ← hl, e)

    -- r: what the code found of the context's number
    module _ (x : ℕ) (ex : l ≡ Some x) (r : Bool) (hr : r ≡ on_none M context) where
      same : x ≡ context
      same = (live M context x (sym ex ∙ hl)).is

      pub off_context : r ≡ true → Ok (k, x) ≡ candidate M cpu context
      unfolding candidate candidate_on candidate_context
      off_context t = rw (← hp, ek, ← hl, ex, ap (on_none M) same ∙ sym hr ∙ t)

      pub on_context : r ≡ false → Err 5 ≡ candidate M cpu context
      unfolding candidate candidate_on candidate_context
      on_context t = rw (← hp, ek, ← hl, ex, ap (on_none M) same ∙ sym hr ∙ t)

-- what a look-up gave, from the result in its place
pub missed : (o : Option ℕ) (r : Refusal) → ok_or o Name ≡ Err r → (o ≡ None) × (r ≡ Name)
missed None r e = (refl, cc)
missed (Some x) r e = cc

pub met : (o : Option ℕ) (x : ℕ) → ok_or o Name ≡ Ok x → o ≡ Some x
met None x e = cc
met (Some y) x e = cc

-- what `Found` says
pub record IsCandidate (M : Machine) (cpu context k x : ℕ) : Type 0 where
  pub cpu_is : IsPresent M cpu k
  pub context_is : IsLive M context x
  pub off : on_none M context ≡ true

of_context : (M : Machine) (context k i x : ℕ) (l : Option ℕ) → l ≡ look_up M context → Ok (k, x) ≡ candidate_context M i l
    → (k ≡ i) × (IsLive M context x) × (on_none M context ≡ true)
unfolding candidate_context
of_context M context k i x None e z = let w : ◌≡◌ {A = ℕ} 0 1 = cc in absurd (omega arith)
of_context M context k i x (Some y) e z =
    by_test (on_none M y) (λ t. same t (rw t at z)) (λ t. never (rw t at z))
  where
    never : ◌≡◌ {A = Result (ℕ × ℕ) ℕ} (Ok (k, x)) (Err 5) → (k ≡ i) × (IsLive M context x) × (on_none M context ≡ true)
    never q = let w : ◌≡◌ {A = ℕ} 0 1 = cc in absurd (omega arith)

    same : on_none M y ≡ true → ◌≡◌ {A = Result (ℕ × ℕ) ℕ} (Ok (k, x)) (Ok (i, y)) → (k ≡ i) × (IsLive M context x) × (on_none M context ≡ true)
    same t q =
        let s : x ≡ y = ap second_found q in
        let a = live M context y e in
        (ap first_found q, live M context x (ap Some s ∙ e), ap (on_none M) (sym a.is) ∙ t)

on_cpu : (M : Machine) (cpu context k x : ℕ) (p : Option ℕ) → p ≡ get_percpu_block M cpu → Ok (k, x) ≡ candidate_on M context p → IsCandidate M cpu context k x
unfolding candidate_on
on_cpu M cpu context k x None e z = let w : ◌≡◌ {A = ℕ} 0 1 = cc in absurd (omega arith)
on_cpu M cpu context k x (Some i) e z =
    let t = of_context M context k i x (look_up M context) refl z
    in record { cpu_is = present M cpu k (ap Some t.0 ∙ e); context_is = t.1; off = t.2 }

pub is_candidate : (M : Machine) (cpu context k x : ℕ) → Ok (k, x) ≡ candidate M cpu context → IsCandidate M cpu context k x
unfolding candidate
is_candidate M cpu context k x z = on_cpu M cpu context k x (get_percpu_block M cpu) refl z

-- and `Refused`
five_context : (M : Machine) (k r : ℕ) (l : Option ℕ) → Err r ≡ candidate_context M k l → r ≡ 5
unfolding candidate_context
five_context M k r None z = cc
five_context M k r (Some x) z = by_test (on_none M x) (λ t. never (rw t at z)) (λ t. told (rw t at z))
  where
    never : ◌≡◌ {A = Result (ℕ × ℕ) ℕ} (Err r) (Ok (k, x)) → r ≡ 5
    never q = let w : ◌≡◌ {A = ℕ} 0 1 = cc in absurd (omega arith)

    told : ◌≡◌ {A = Result (ℕ × ℕ) ℕ} (Err r) (Err 5) → r ≡ 5
    told q = cc

five_cpu : (M : Machine) (context r : ℕ) (p : Option ℕ) → Err r ≡ candidate_on M context p → r ≡ 5
unfolding candidate_on
five_cpu M context r None z = cc
five_cpu M context r (Some k) z = five_context M k r (look_up M context) z

pub refused_five : (M : Machine) (cpu context r : ℕ) → Err r ≡ candidate M cpu context → r ≡ 5
unfolding candidate
refused_five M cpu context r z = five_cpu M context r (get_percpu_block M cpu) z
