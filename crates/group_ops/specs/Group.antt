-- `unblock_group`: operation 4 for every context of a set, or for none. Assumes nothing.
use Rattle.std.specs.Prelude.{◌≡◌, true, false, ◌||◌, List, ℕ, ◌+◌, ltb, eqb, if◌then◌else◌, None, Option, Some, Err, Ok, Result}
use Rattle.columns.specs.Common.{mark, fold}
use Rattle.cpu_set.specs.Members.{members}
use Rattle.answer.specs.declared.Answer.{Answer}
use Rattle.machine.specs.Machine.{Machine}
use Rattle.machine.specs.Encode.{encode}
use Rattle.machine.specs.LookUp.{get_percpu_block}
use Rattle.machine.specs.Outcome.{Outcome, finished}
use Rattle.context_ops.specs.Named.{named}
use Rattle.context_ops.specs.Operations.{unblock_context}
use Rattle.context_ops.specs.Reply.{Reply, refuse, replied}

-- of two refusals the one that is checked first; 0 is none
unfoldable pub first_check : ℕ → ℕ → ℕ
first_check a b =
    if eqb a 0 then b else
    if eqb b 0 then a else
    if ltb a b then a else b

unfoldable pub name_refusal : Result (ℕ × ℕ) ℕ → ℕ
name_refusal (Err r) = r
name_refusal (Ok (k, x)) = 0

-- by the check first, by the context second: 5 if any of them is gone or not below N, else 6 if any is locked
unfoldable pub names_refusal : Machine → (cpu : ℕ) → List ℕ → ℕ
names_refusal M cpu xs = fold (λ (r x : ℕ). first_check r (name_refusal (named M cpu x))) 0 xs

-- one context more: true returns are counted, and a mark stays
unfoldable pub also_unblock : (k : ℕ) → Outcome → ℕ → Outcome
also_unblock k o x =
    let p = unblock_context k x o.machine in
    record {
      machine = p.machine;
      result = o.result + p.result;
      interrupt = o.interrupt || p.interrupt;
      rule = 0;
      no_room = o.no_room || p.no_room;
    }

unfoldable pub unblock_each : (k : ℕ) → List ℕ → Machine → Outcome
unblock_each k xs M = fold (also_unblock k) (finished 0 M) xs

unfoldable pub group_on : List ℕ → Machine → (cpu : ℕ) → List ℕ → Option ℕ → Reply
group_on m M cpu xs None = refuse 5 m
group_on m M cpu xs (Some k) =
    if eqb (names_refusal M cpu xs) 0 then replied m (unblock_each k xs M) else refuse (names_refusal M cpu xs) m

-- the contexts that the mask names, by rising number
unfoldable pub unblock_group : List ℕ → Machine → (cpu mask : ℕ) → Reply
unblock_group m M cpu mask = group_on m M cpu (members mask) (get_percpu_block M cpu)

-- what the loop gives: the words m' and the answer a of an outcome; without room the words are anything
pub record Unblocked (m' : List ℕ) (a : Answer) (o : Outcome) : Type 0 where
  pub full : o.no_room ≡ true → a ≡ record { refusal = 9; result = 0; interrupt = 0; rule = 0 }
  pub image : o.no_room ≡ false → m' ≡ encode o.machine
  pub answer : o.no_room ≡ false → a ≡ record { refusal = 0; result = o.result; interrupt = mark o.interrupt; rule = o.rule }
