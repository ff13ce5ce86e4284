-- What a call makes of a board's cues: one more, one handed out, or as they were. Assumes nothing.
use mathlib.Core.Path.{◌≡◌, refl, sym, ap, ◌∙◌}
use mathlib.Core.Bool.{true}
use mathlib.Core.Logic.{◌⊎◌, inl, inr}
use Prim.Native.Nat.{ℕ, zero, suc, suc-le-suc, ◌+◌, ◌<◌, ◌≤◌}
use native.Mathlib.Omega.{arith}
use native.Mathlib.Numerals.{add-one}
use mathlib.Core.List.{List, [], ◌∷◌, ◌++◌, append-nil}
use lib.ListN.{length, take, drop}
use lib.Seq.{drop-cons}
use borrow.Author.Tests.{lt-ltb, le-leb, eq-eqb}
use Rattle.columns.specs.Common.{tabulate}
use Rattle.columns.proofs.Tabulate.{length_tabulate, get_d_tabulate}
use Rattle.le_bytes.specs.LeBytes.{from_le_bytes, to_le_bytes}
use Rattle.le_bytes.proofs.Bytes.{length_le_bytes}
use Rattle.board.specs.Board.{Board, Cue, header_size, max_capacity, board_size, is_sized, number_at, put_number, capacity, stored, handed_out, cue_at, cues}
use Rattle.slots.specs.Slots.{put_cue}
use Rattle.board.proofs.Lent.{length_put_number}
use Rattle.board.proofs.Sized.{IsRight, sized_is}
use Rattle.cues.specs.Add.{with_cue}
use Rattle.cue_line.proofs.Lined.{tabulate_snoc}
use Rattle.cue_runs.proofs.Parts.{part_in}
use Rattle.cue_runs.proofs.Numbers.{number_again}
use Rattle.cue_runs.proofs.Regions.{Whole, number_out, cue_board}
use Rattle.cue_runs.proofs.Slots.{size_cue, earlier_cue, size_stays}
use Rattle.cue_runs.proofs.Own.{own_cue}

pub record Advance (b b' : List ℕ) (brought handed : List Cue) : Type 0 where
  pub sized : is_sized b' ≡ true
  pub line : cues b' ≡ cues b ++ brought
  pub moved : handed_out b' ≡ handed_out b + length handed
  pub there : handed_out b + length handed ≤ length (cues b)
  pub right : handed ≡ take (length handed) (drop (handed_out b) (cues b))

pub length_cues : (b : List ℕ) → length (cues b) ≡ stored b
unfolding cues
length_cues b = length_tabulate (stored b) (cue_at (capacity b) b)

pub stays : (b : List ℕ) → is_sized b ≡ true → Advance b b [] []
stays b s =
    record {
      sized = s;
      line = sym (append-nil (cues b));
      moved = omega arith;
      there = rw (length_cues b) (omega (arith, (sized_is b s).handed));
      right = refl;
    }

tabulate_same : (n : ℕ) (f g : ℕ → Cue) → ((j : ℕ) → j < n → f j ≡ g j) → tabulate n f ≡ tabulate n g
unfolding tabulate
tabulate_same zero f g e = refl
tabulate_same (suc n) f g e =
    let p : tabulate n (λ (j : ℕ). f (suc j)) ≡ tabulate n (λ (j : ℕ). g (suc j)) = tabulate_same n (λ (j : ℕ). f (suc j)) (λ (j : ℕ). g (suc j)) (λ j h. e (suc j) (suc-le-suc h))
    in let q : f zero ≡ g zero = e zero (omega arith)
    in λ t. q t ∷ p t

-- sizes that are still right
sized_again : (b b' : List ℕ) → is_sized b ≡ true → length b' ≡ length b → capacity b' ≡ capacity b → stored b' ≤ capacity b → handed_out b' ≤ stored b' → is_sized b' ≡ true
unfolding is_sized
sized_again b b' s l c n h =
    let o = sized_is b s
    in let e : length b' ≡ board_size (capacity b) = l ∙ o.board.size
    in rw (c, le-leb header_size (length b') (omega arith), lt-ltb 0 (capacity b) o.some, le-leb (capacity b) max_capacity o.board.most, eq-eqb (length b') (board_size (capacity b)) e, le-leb (stored b') (capacity b) n, le-leb (handed_out b') (stored b') h)

-- one of the sizes is stored anew
module _ (b : List ℕ) (s x : ℕ) (h : s + 8 ≤ length b) where
  size_other : (t : ℕ) → (t + 8 ≤ s) ⊎ (s + 8 ≤ t) → number_at (put_number b s x) t ≡ number_at b t
  size_other t a = ap from_le_bytes (number_out b s x t 8 h a)

  size_new : x ≤ max_capacity → number_at (put_number b s x) s ≡ x
  size_new g = ap from_le_bytes (part_in b s 8 (to_le_bytes 8 x) h (length_le_bytes 8 x)) ∙ number_again x (omega arith)

module _ (b : List ℕ) (s : is_sized b ≡ true) where
  right_sizes : IsRight b (capacity b) (stored b) (handed_out b)
  right_sizes = sized_is b s

  -- a cue is added
  module _ (q : Cue) (w : Whole q) (room : stored b < capacity b) where
    put : List ℕ
    put = put_cue (capacity b) b (stored b) q

    put_board : Board (capacity b) put
    unfolding put
    put_board = cue_board (capacity b) (stored b) room b q right_sizes.board w

    put_size : (t : ℕ) → t + 8 ≤ header_size → number_at put t ≡ number_at b t
    unfolding put
    put_size = size_stays (capacity b) (stored b) room b q right_sizes.board w

    long : 8 + 8 ≤ length put
    long = omega (arith, put_board.size)

    new : List ℕ
    new = put_number put 8 (stored b + 1)

    capacity_new : capacity new ≡ capacity b
    unfolding new
    capacity_new = size_other put 8 (stored b + 1) long 0 (inl (omega arith)) ∙ put_size 0 (omega arith)

    handed_new : handed_out new ≡ handed_out b
    unfolding new
    handed_new = size_other put 8 (stored b + 1) long 16 (inr (omega arith)) ∙ put_size 16 (omega arith)

    stored_new : stored new ≡ stored b + 1
    unfolding new
    stored_new = size_new put 8 (stored b + 1) long (omega (arith, right_sizes.board.most, room))

    cue_new : (j : ℕ) → cue_at (capacity b) new j ≡ cue_at (capacity b) put j
    unfolding new
    cue_new j = size_cue (capacity b) j put 8 (stored b + 1) put_board (omega arith)

    line_new : cues new ≡ cues b ++ (q ∷ [])
    unfolding cues put
    line_new =
        let e : tabulate (stored b) (cue_at (capacity b) new) ≡ tabulate (stored b) (cue_at (capacity b) b)
        = tabulate_same (stored b) (cue_at (capacity b) new) (cue_at (capacity b) b) (λ j g. cue_new j ∙ earlier_cue (capacity b) (stored b) room b q right_sizes.board w j g)
        in let p : cue_at (capacity b) new (stored b) ≡ q = cue_new (stored b) ∙ own_cue (capacity b) (stored b) room b q right_sizes.board w
        in rw (capacity_new, stored_new, add-one (stored b), tabulate_snoc (stored b) (cue_at (capacity b) new), e, p)

    length_new : length new ≡ length b
    unfolding new
    length_new = length_put_number put 8 (stored b + 1) long ∙ put_board.size ∙ sym right_sizes.board.size

    new_is : new ≡ with_cue b q
    unfolding new put with_cue
    new_is = refl

    pub takes_cue : Advance b (with_cue b q) (q ∷ []) []
    takes_cue =
        rw (← new_is)
        (record {
          sized = sized_again b new s length_new capacity_new (rw stored_new (omega (arith, room))) (rw (handed_new, stored_new) (omega (arith, right_sizes.handed)));
          line = line_new;
          moved = rw handed_new (omega arith);
          there = rw (length_cues b) (omega (arith, right_sizes.handed));
          right = refl;
        })

  -- the next cue is handed out
  module _ (waits : handed_out b < stored b) where
    fewer : List ℕ
    fewer = put_number b 16 (handed_out b + 1)

    deep : 16 + 8 ≤ length b
    deep = omega (arith, right_sizes.board.size)

    capacity_fewer : capacity fewer ≡ capacity b
    unfolding fewer
    capacity_fewer = size_other b 16 (handed_out b + 1) deep 0 (inl (omega arith))

    stored_fewer : stored fewer ≡ stored b
    unfolding fewer
    stored_fewer = size_other b 16 (handed_out b + 1) deep 8 (inl (omega arith))

    handed_fewer : handed_out fewer ≡ handed_out b + 1
    unfolding fewer
    handed_fewer = size_new b 16 (handed_out b + 1) deep (omega (arith, right_sizes.board.most, right_sizes.fewer, waits))

    line_fewer : cues fewer ≡ cues b
    unfolding cues fewer
    line_fewer =
        rw (capacity_fewer, stored_fewer)
        (tabulate_same (stored b) (cue_at (capacity b) fewer) (cue_at (capacity b) b) (λ j g. size_cue (capacity b) j b 16 (handed_out b + 1) right_sizes.board (omega arith)))

    first_left : cue_at (capacity b) b (handed_out b) ∷ [] ≡ take 1 (drop (handed_out b) (cues b))
    unfolding cues
    first_left =
        let g : handed_out b < length (tabulate (stored b) (cue_at (capacity b) b)) = rw (length_tabulate (stored b) (cue_at (capacity b) b)) waits
        in rw (drop-cons (tabulate (stored b) (cue_at (capacity b) b)) (handed_out b) (cue_at (capacity b) b 0) g, get_d_tabulate (stored b) (handed_out b) (cue_at (capacity b) b) (cue_at (capacity b) b 0) waits)

    pub gives_cue : Advance b (put_number b 16 (handed_out b + 1)) [] (cue_at (capacity b) b (handed_out b) ∷ [])
    unfolding fewer
    gives_cue =
        record {
          sized = sized_again b fewer s (length_put_number b 16 (handed_out b + 1) deep) capacity_fewer (rw stored_fewer right_sizes.fewer) (rw (handed_fewer, stored_fewer) (omega (arith, waits)));
          line = line_fewer ∙ sym (append-nil (cues b));
          moved = handed_fewer;
          there = rw (length_cues b) (omega (arith, waits));
          right = first_left;
        }

    pub capacity_after : capacity (put_number b 16 (handed_out b + 1)) ≡ capacity b
    unfolding fewer
    capacity_after = capacity_fewer
