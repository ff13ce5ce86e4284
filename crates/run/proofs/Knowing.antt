-- A call on an image that is known to pass, or was checked, is the call; and what is known after it. Assumes nothing.
use Rattle.std.specs.Prelude.{Option, None, Some, IfSome, Err, Ok, Result}
use mathlib.Core.Path.{◌≡◌, refl, sym, ap, ◌∙◌, subst}
use mathlib.Core.Bool.{true}
use mathlib.Core.List.{List}
use Prim.Native.Nat.{ℕ, ◌<◌, ◌≤◌}
use native.Mathlib.Omega.{arith}
use lib.ListN.{length}
use borrow.Author.Tests.{le-leb, lt-leb, le-ltb, lt-ltb, eq-eqb}
use Rattle.machine.specs.Machine.{Machine}
use Rattle.machine.specs.Encode.{encode, decode, cpu_place}
use Rattle.machine.specs.Shape.{Image, Fits}
use Rattle.image.specs.Refusal.{size_c, size_n, in_bounds, ranges, sized_refusal, image_refusal}
use Rattle.image.proofs.Admitted.{Passed, passed, decoded, decoded_fits, admitted}
use Rattle.stages.specs.Stage.{Ranged}
use Rattle.admission.proofs.Bounds.{ranged}
use Rattle.model_leaves.proofs.Decoding.{well_formed}
use Rattle.model_leaves.proofs.Passing.{machine_passes}
use Rattle.model_leaves.proofs.Raising.{decoded_raised}
use Rattle.answer.specs.declared.Answer.{Answer}
use Rattle.context_ops.specs.Reply.{Reply, reply, refuse}
use Rattle.calls.specs.Call.{check, checked_by, call}
use Rattle.calls.proofs.Called.{check_passed, check_refused, is_passed}
use Rattle.operations.specs.Operation.{operation_reply}
use Rattle.operations.proofs.Dispatched.{call_is, refused_is}
use Rattle.numbers.specs.Limits.{max_number}
use Rattle.growth.specs.declared.Bounds.{Bounds}
use Rattle.growth.specs.Growth.{InRange, is_in_range, call_bounds, Known}
use Rattle.growth.proofs.Tested.{in_range}
use Rattle.growth.proofs.Knowing.{known_eq, known_fits, known_passes, stays_known}
use Rattle.measure.specs.Measured.{Measured}
use Rattle.measure.proofs.Within.{measured_within}
use Rattle.operations.specs.declared.arguments.Call.{Call}
use Rattle.run.specs.declared.knowledge.Passing.{Passing}
use Rattle.run.specs.declared.knowledge.Knowledge.{Knowledge}
use Rattle.run.specs.declared.knowledge.Knowledge.TheVariants.{Passes, Unknown}
use Rattle.run.specs.Knowledge.{Holds, Makes}

-- an image that passes: the check has nothing to say
passing_call : (m : List ℕ) (operation cpu time context : ℕ) → image_refusal time m ≡ 0 → operation_reply m (decode m) operation cpu time context ≡ call m operation cpu time context
unfolding checked_by
passing_call m operation cpu time context z =
    let f : Machine → Reply = λ M. operation_reply m M operation cpu time context in
    ap (checked_by m f) (check_passed m time 0 (size_c m) (size_n m) (sym z) refl refl refl) ∙ sym (call_is m operation cpu time context)

refused_call : (m : List ℕ) (operation cpu time context r : ℕ) → r ≡ image_refusal time m → (r ≡ 0 → ⊥) → refuse r m ≡ call m operation cpu time context
unfolding checked_by
refused_call m operation cpu time context r e n =
    ap (checked_by m (λ (M : Machine). operation_reply m M operation cpu time context)) (check_refused m time r e n) ∙ sym (call_is m operation cpu time context)

-- nothing is known
pub unknown : (wait : ℕ) (m : List ℕ) → Holds (Unknown wait) m
unknown wait m = record { knows = λ p e. cc }

known_holds : {c n : ℕ} {b : Bounds} {m : List ℕ} → Known c n b m → Holds (Passes (record { cpus = c; contexts = n; bounds = b })) m
known_holds {c} {n} {b} {m} k =
    record { knows = λ p e. let i : record { cpus = c; contexts = n; bounds = b } ≡ p = cc in subst (λ (q : Passing). Known q.cpus q.contexts q.bounds m) i k }

-- the code's own words for a call on the image m that left m'; after: the bounds then
module _ {c n : ℕ} {b : Bounds} {m m' : List ℕ} (q : Call) (a : Answer) (o : Known c n b m) (soon : q.time ≤ max_number)
    (f : (M : Machine) → m ≡ encode M → Fits c n M → reply a m' ≡ operation_reply m M q.operation q.cpu q.time q.context) where
  made : reply a m' ≡ operation_reply m (decode m) q.operation q.cpu q.time q.context
  made = f (decode m) (known_eq o) (known_fits o)

  pub known_makes : (after : Bounds) → ((M : Machine) → m ≡ encode M → Fits c n M → after ≡ call_bounds c M q.operation q.cpu q.time b) → is_in_range after ≡ true
      → Makes m m' q (record { answer = a; knowledge = Passes (record { cpus = c; contexts = n; bounds = after }) })
  known_makes after h t =
      let d : after ≡ call_bounds c (decode m) q.operation q.cpu q.time b = h (decode m) (known_eq o) (known_fits o) in
      record {
        replies = made ∙ passing_call m q.operation q.cpu q.time q.context (known_passes o q.time soon);
        holds = known_holds (subst (λ (y : Bounds). Known c n y m') (sym d) (stays_known o q.operation q.cpu q.time q.context soon a m' made (subst InRange d (in_range after t))));
      }

  -- a number is over what is known to be in range
  pub over_makes : (wait : ℕ) → Makes m m' q (record { answer = a; knowledge = Unknown wait })
  over_makes wait = record { replies = made ∙ passing_call m q.operation q.cpu q.time q.context (known_passes o q.time soon); holds = unknown wait m' }

-- an image that passed the check at the call's time
module _ (c n : ℕ) (m : List ℕ) (time : ℕ) (z : image_refusal time m ≡ 0) (hc : c ≡ size_c m) (hn : n ≡ size_n m) where
  p : Passed time m
  p = passed time m z

  pub passed_sizes : (c ≤ 4) × (n ≤ 64) × (cpu_place n c ≤ length m)
  passed_sizes = (omega (arith, p.cpus.1), omega (arith, p.names.1), rw (hc, hn) (omega (arith, p.size)))

  pub passed_time : time ≤ max_number
  passed_time = p.words.time_most

  pub passed_image : Image c n m
  passed_image = rw (hc, hn) (admitted m p)

  pub passed_ranged : Ranged c n max_number max_number m
  passed_ranged = rw (hc, hn) (ranged m p)

  pub passed_known : (b : Bounds) → Measured m c n b → is_in_range b ≡ true → Known c n b m
  passed_known b o t =
      record {
        passes = subst (λ (y : List ℕ). image_refusal 0 y ≡ 0) (sym (decoded m p)) (machine_passes (size_c m) (size_n m) (decode m) (well_formed m p) 0 (omega arith) (decoded_raised m p));
        cpus = hc;
        contexts = hn;
        in_range = in_range b t;
        within = rw (hc, hn) (measured_within m b p (rw (hc, hn) at o));
      }

  pub passed_makes : {m' : List ℕ} (q : Call) (a : Answer) (wait : ℕ) → q.time ≡ time
      → ((M : Machine) → m ≡ encode M → Fits c n M → reply a m' ≡ operation_reply m M q.operation q.cpu q.time q.context) → Makes m m' q (record { answer = a; knowledge = Unknown wait })
  passed_makes {m'} q a wait e f =
      record {
        replies = f (decode m) (decoded m p) (rw (hc, hn) (decoded_fits m p)) ∙ passing_call m q.operation q.cpu q.time q.context (rw e z);
        holds = unknown wait m';
      }

-- what the check gave
pub refused_makes : (m : List ℕ) (q : Call) (w : Result (ℕ × ℕ) ℕ) (r : ℕ) (a : Answer) (wait : ℕ) → w ≡ check m q.time → w ≡ Err r → a ≡ record { refusal = r; result = 0; interrupt = 0; rule = 0 }
    → Makes m m q (record { answer = a; knowledge = Unknown wait })
refused_makes m q w r a wait e g h = record { replies = refused_is m q.time w e q.operation q.cpu q.context r g h; holds = unknown wait m }

pub check_says : (m : List ℕ) (time : ℕ) (w : Result (ℕ × ℕ) ℕ) (c n : ℕ) → w ≡ check m time → w ≡ Ok (c, n) → (image_refusal time m ≡ 0) × (c ≡ size_c m) × (n ≡ size_n m)
check_says m time w c n e g = let i = is_passed m time c n (sym g ∙ e) in (i.none, i.cpus, i.names)

-- a time out of range, on an image that passes at any other
late : (m : List ℕ) (time : ℕ) → image_refusal 0 m ≡ 0 → max_number < time → 3 ≡ image_refusal time m
unfolding image_refusal sized_refusal in_bounds ranges
late m time o h =
    let i = passed 0 m o in
    rw (
      le-ltb (length m) 2 (omega (arith, i.size)),
      lt-ltb 0 (size_c m) (omega (arith, i.cpus.0)),
      le-leb (size_c m) 4 i.cpus.1,
      lt-ltb 0 (size_n m) (omega (arith, i.names.0)),
      le-leb (size_n m) 64 i.names.1,
      eq-eqb (length m) (cpu_place (size_n m) (size_c m)) i.size,
      lt-leb time max_number h,
    )
    refl

pub late_makes : {c n : ℕ} {b : Bounds} (m : List ℕ) (q : Call) (a : Answer) → Known c n b m → max_number < q.time → a ≡ record { refusal = 3; result = 0; interrupt = 0; rule = 0 }
    → Makes m m q (record { answer = a; knowledge = Passes (record { cpus = c; contexts = n; bounds = b }) })
late_makes m q a k h e =
    record {
      replies = ap (λ (y : Answer). reply y m) e ∙ refused_call m q.operation q.cpu q.time q.context 3 (late m q.time k.passes h) (λ z. omega arith);
      holds = known_holds k;
    }

pub unmeasured_makes : (m m' : List ℕ) (q : Call) (a : Answer) (wait : ℕ) → reply a m' ≡ call m q.operation q.cpu q.time q.context → Makes m m' q (record { answer = a; knowledge = Unknown wait })
unmeasured_makes m m' q a wait e = record { replies = e; holds = unknown wait m' }
