-- What the program prints. Assumes nothing.
use Rattle.std.specs.Prelude.{not, ℕ, ◌+◌, ◌%◌, List, ltb, eqb, length, if◌then◌else◌}
use Rattle.image.specs.Refusal.{size_n}
use Rattle.calls.specs.Call.{call}
use Rattle.asked.specs.declared.Asked.{Asked}
use Rattle.asked.specs.OfReply.{refused, asked_of}
use Rattle.operations.specs.declared.arguments.Call.{Call}
use Rattle.decide.specs.Input.{head_of, image_words, kept}

-- the five numbers of the call
abbrev pub call_line : List ℕ → Call → Asked
call_line m q = asked_of (size_n m) q.cpu (call m q.operation q.cpu q.time q.context)

-- s are the input's first bytes, at least as many as the longest image takes or all; over is how many follow, modulo 8
unfoldable pub line : List ℕ → ℕ → Asked
line s over =
    if ltb (length s) 32 then refused 1 else
    if not (eqb ((length s % 8 + over) % 8) 0) then refused 1 else call_line (image_words s (kept s)) (head_of s)
