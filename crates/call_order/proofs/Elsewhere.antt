-- A switch on words reads and writes its CPU's block and the records that the block names, and nothing else.
use mathlib.Core.Path.{sym, ◌∙◌, subst}
use mathlib.Core.Bool.{Bool}
use Prim.Native.Nat.{ℕ}
use Rattle.machine.specs.Machine.{Machine, cpu_at}
use Rattle.machine.specs.Encode.{decode}
use Rattle.model.specs.Schedule.{switch}
use Rattle.model_local.specs.Names.{names}
use Rattle.model_local.specs.Local.{Alike, Elsewhere}
use Rattle.model_local.proofs.Named.{within_named}
use Rattle.model_local.proofs.Switching.{switch_local}
use Rattle.call_order.specs.Order.{image_of}
use Rattle.call_order.specs.Elsewhere.{named_on, OwnWordsOnly}
use Rattle.call_order.proofs.Switched.{switched}
use Rattle.call_order.proofs.Either.{same_answer}

pub own_words_only : OwnWordsOnly
own_words_only m m' k time alike quiet a b =
    let S : ℕ → Bool = named_on m k in
    let p = switched m k time a in
    let q = switched m' k time b in
    let l = switch_local S k time (decode m) (decode m') alike (within_named (names (cpu_at (decode m) k))) quiet p.below q.below in
    record {
      answer = q.answer ∙ same_answer l.answer ∙ sym p.answer;
      alike =
          subst (λ (N : Machine). Alike S k N (decode (image_of m' k time))) (sym p.machine) (subst (Alike S k (switch k time (decode m)).machine) (sym q.machine) l.alike);
      elsewhere = subst (Elsewhere S k (decode m)) (sym p.machine) l.elsewhere;
      elsewhere' = subst (Elsewhere S k (decode m')) (sym q.machine) l.elsewhere';
    }
