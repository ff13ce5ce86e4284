-- The five numbers of a switch that was tried on a copy, and the CPU's block inside the words. Assumes nothing.
use mathlib.Core.Path.{◌≡◌, refl, sym, ap, ◌∙◌}
use Prim.Native.Nat.{ℕ, ◌+◌, ◌<◌, ◌≤◌}
use native.Mathlib.Omega.{arith}
use mathlib.Core.List.{List}
use lib.Dec.{eqb}
use lib.ListN.{length, get_or, take}
use lib.Seq.{get_or-take}
use borrow.Author.Tests.{eqb-true}
use Rattle.columns.proofs.Tests.{by_test}
use Rattle.percpu.specs.Places.{block_size}
use Rattle.machine.specs.Machine.{Machine}
use Rattle.machine.specs.Encode.{encode, cpu_place, max_image_size}
use Rattle.machine.specs.LookUp.{get_percpu_block}
use Rattle.machine.specs.Shape.{Fits, Image}
use Rattle.machine.proofs.Steps.{sized}
use Rattle.image.specs.Refusal.{size_c, size_n}
use Rattle.image.proofs.Admitted.{passed}
use Rattle.model.specs.Accepted.{by_switch, outcome}
use Rattle.answer.specs.declared.Answer.{Answer}
use Rattle.context_ops.specs.Reply.{Reply, reply}
use Rattle.switch_ops.specs.Reply.{decide, Attempts}
use Rattle.calls.specs.Call.{switch_call}
use Rattle.calls.proofs.Accepts.{Accepts, by, switch_accepts}
use Rattle.trial.specs.Trial.{Tried}
use Rattle.asked.specs.declared.Asked.{Asked}
use Rattle.asked.specs.OfReply.{BlockInside, asked_of}
use Rattle.ask.specs.Ask.{ask}

-- an image in which the call's CPU has its block
pub accepts_inside : {cpu time : ℕ} (m z : List ℕ) → Accepts m cpu time → max_image_size ≤ length z → BlockInside (size_n m) cpu z
accepts_inside {cpu} {time} m z s l =
    let p = passed time m s.none
    in let b : cpu < size_c m = s.below
    in record { contexts = p.names.1; cpus = omega (arith, p.cpus.1); inside = omega (arith, p.names.1, p.cpus.1) }

-- a switch of m was tried, and m' has the image that it left at its beginning
module _ {a : Answer} (m m' : List ℕ) (cpu time : ℕ) (t : Tried m (take (length m) m') cpu time a) where
  whole : reply a (switch_call m cpu time).image ≡ switch_call m cpu time
  whole = λ i. record { answer = t.answers i; image = (switch_call m cpu time).image }

  -- n: the number of contexts, as the code has it
  pub tried_inside : (n : ℕ) → n ≡ size_n m → max_image_size ≤ length m' → a.refusal ≡ 0 → BlockInside n cpu m'
  tried_inside n e l z = rw e (accepts_inside m m' (switch_accepts m cpu time 0 z whole) l)

  place_below : (i : ℕ) → i < block_size → a.refusal ≡ 0 → get_or (switch_call m cpu time).image (cpu_place (size_n m) cpu + i) 0 ≡ get_or m' (cpu_place (size_n m) cpu + i) 0
  place_below i h z =
      let s = switch_accepts m cpu time 0 z whole
      in let p = passed time m s.none
      in let b : cpu < size_c m = s.below
      in ap (λ (l : List ℕ). get_or l (cpu_place (size_n m) cpu + i) 0) (sym (t.leaves z))
      ∙ get_or-take (length m) m' (cpu_place (size_n m) cpu + i) 0 (omega (arith, p.size))

  told_of : asked_of (size_n m) cpu (reply a m') ≡ ask m cpu time
  unfolding asked_of
  told_of =
      by_test (eqb a.refusal 0)
      (λ b. let z = eqb-true a.refusal 0 b
      in rw (← t.answers, b, place_below 2 (omega arith) z, place_below 1 (omega arith) z, place_below 19 (omega arith) z))
      (λ b. rw (← t.answers, b))

  pub told : {r : Asked} (n : ℕ) → n ≡ size_n m → r ≡ asked_of n cpu (reply a m') → r ≡ ask m cpu time
  told n e h = (rw e at h) ∙ told_of

-- a switch of m, the image of c CPUs and n contexts, was attempted
module _ {c n : ℕ} {a : Answer} {m' : List ℕ} (m : List ℕ) (cpu time : ℕ)
    (t : (M : Machine) → m ≡ encode M → Fits c n M → Attempts m' a (decide m M cpu time by_switch) (outcome by_switch cpu time M).machine) where
  pub attempted_inside : Image c n m → length m' ≡ length m → a.refusal ≡ 0 → BlockInside n cpu m'
  attempted_inside i l z =
      let w = t i.M i.eq i.fits
      in let b = by m cpu time 0 z i.M by_switch (get_percpu_block i.M cpu) refl (w.replies z).replies
      in let s = sized i
      in record { contexts = s.contexts; cpus = omega (arith, b, i.fits.cpus, s.cpus); inside = omega (arith, b, i.fits.cpus, s.size) }
