-- Two switches of CPUs that are apart give the same image and the same answers in either order.
use mathlib.Core.Path.{◌≡◌, sym, ap, ◌∙◌}
use Rattle.columns.specs.Common.{mark}
use Rattle.machine.specs.Machine.{Machine}
use Rattle.machine.specs.Encode.{encode, decode}
use Rattle.machine.specs.Outcome.{Outcome}
use Rattle.model.specs.Schedule.{switch}
use Rattle.model_local.specs.Local.{SameAnswer}
use Rattle.model_local.proofs.Either as machines
use Rattle.call_order.specs.Order.{image_of, EitherOrder}
use Rattle.call_order.proofs.Switched.{answer_of, switched}

pub same_answer : {o p : Outcome} → SameAnswer o p → answer_of p ≡ answer_of o
same_answer a = λ j. record { refusal = 0; result = a.result j; interrupt = mark (a.interrupt j); rule = a.rule j }

pub either_order : EitherOrder
either_order m one s other t distinct h quiet quiet' w =
    let M = decode m in
    let a = switched m one s w.first in
    let b = switched m other t w.other_first in
    let ab = switched (image_of m one s) other t w.then_other in
    let ba = switched (image_of m other t) one s w.then_one in
    let e = machines.either_order M one s other t distinct a.below b.below h quiet quiet' in
    record {
      image =
          ab.image ∙ ap (λ (N : Machine). encode (switch other t N).machine) a.machine ∙ ap encode e.machine
          ∙ sym (ba.image ∙ ap (λ (N : Machine). encode (switch one s N).machine) b.machine);
      answer = ba.answer ∙ ap (λ (N : Machine). answer_of (switch one s N)) b.machine ∙ same_answer e.answer ∙ sym a.answer;
      answer' = ab.answer ∙ ap (λ (N : Machine). answer_of (switch other t N)) a.machine ∙ same_answer e.answer' ∙ sym b.answer;
    }
