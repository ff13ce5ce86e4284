-- A call replayed on an image given by its nonzero words. Assumes nothing.
use Rattle.std.specs.Prelude.{Bool, true, false, not, ◌&&◌, List, [], ◌∷◌, ℕ, zero, suc, eqb, if◌then◌else◌}
use Rattle.machine.specs.Machine.{Machine}
use Rattle.machine.specs.Encode.{encode, decode}
use Rattle.model.specs.Schedule.{Outcome, tick, switch, direct_switch_to}

-- before and after: the image's words, as gaps of zeros and words by turns
pub record KernelCase : Type 0 where
  pub op : ℕ
  pub cpu : ℕ
  pub time : ℕ
  pub ctx : ℕ
  -- the call found no room, refusal 9
  pub full : Bool
  pub result : ℕ
  pub before : List ℕ
  pub after : List ℕ

abbrev pub called : (op cpu time ctx : ℕ) (full : Bool) (result : ℕ) (before after : List ℕ) → KernelCase
called op cpu time ctx full result before after =
    record { op = op; cpu = cpu; time = time; ctx = ctx; full = full; result = result; before = before; after = after }

-- n zeros before l
unfoldable pub zeros : ℕ → List ℕ → List ℕ
zeros zero l = l
zeros (suc n) l = 0 ∷ zeros n l

-- gaps of zeros and words by turns
unfoldable pub sparse : List ℕ → List ℕ
sparse [] = []
sparse (n ∷ []) = zeros n []
sparse (n ∷ v ∷ l) = zeros n (v ∷ sparse l)

unfoldable pub same_words : List ℕ → List ℕ → Bool
same_words [] [] = true
same_words [] (y ∷ ys) = false
same_words (x ∷ xs) [] = false
same_words (x ∷ xs) (y ∷ ys) = eqb x y && same_words xs ys

unfoldable pub replay : KernelCase → Machine → Outcome
replay c M =
    if eqb c.op 1 then tick c.cpu c.time M else
    if eqb c.op 2 then switch c.cpu c.time M else direct_switch_to c.cpu c.time c.ctx M

-- the words come back, and the call finds no room, or gives the result and leaves the words that the kernel left
unfoldable pub passes : KernelCase → Bool
passes c =
    let words = sparse c.before in
    let o = replay c (decode words) in
    same_words (encode (decode words)) words
    && (if c.full then o.no_room else eqb o.result c.result && not o.no_room && not o.interrupt && same_words (encode o.machine) (sparse c.after))

unfoldable pub every_passes : List KernelCase → Bool
every_passes [] = true
every_passes (c ∷ cs) = passes c && every_passes cs
