-- The time of one context or of all, added up over records. Assumes nothing.
use Rattle.std.specs.Prelude.{ℕ, zero, suc, ◌+◌, List, [], ◌∷◌, eqb, if◌then◌else◌}
use Rattle.answer.specs.declared.Answer.{Answer}
use Rattle.window.specs.declared.Record.{Record}
use Rattle.window.specs.declared.Whose.{Whose}
use Rattle.window.specs.declared.Whose.TheVariants.{Context, All}
use Rattle.window.specs.Window.{records, refusal}

abbrev pub time_for : Whose → Record → ℕ
time_for (Context x) r = if eqb r.context x then r.time else 0
time_for All r = r.time

unfoldable pub sum_for : Whose → List Record → ℕ
sum_for whose [] = 0
sum_for whose (r ∷ rs) = time_for whose r + sum_for whose rs

-- f of 0, 1, .., n - 1, added up
unfoldable pub sum_below : ℕ → (ℕ → ℕ) → ℕ
sum_below zero f = 0
sum_below (suc n) f = sum_below n f + f n

-- the sum as the result; refusals 1 and 3 of the window, for n contexts, come first
unfoldable pub share_answer : (n : ℕ) → Whose → List ℕ → Answer
share_answer n whose w =
    if eqb (refusal n w) 0 then record { refusal = 0; result = sum_for whose (records w); interrupt = 0; rule = 0 }
    else record { refusal = refusal n w; result = 0; interrupt = 0; rule = 0 }
