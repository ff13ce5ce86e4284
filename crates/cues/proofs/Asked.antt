-- Which cue is due, test by test. Assumes nothing.
use mathlib.Core.Path.{◌≡◌, sym, ap, ◌∙◌}
use mathlib.Core.Bool.{false}
use Prim.Native.Nat.{ℕ, ◌<◌, ◌≤◌}
use mathlib.Core.List.{List, [], ◌∷◌, ◌++◌}
use borrow.Author.Tests.{lt-ltb, le-ltb, le-leb, lt-leb, eq-eqb, ne_eqb}
use Rattle.columns.specs.Common.{tabulate}
use Rattle.board.specs.Board.{Cue, is_sized, cue_at, cues}
use Rattle.board.proofs.Sized.{IsRight}
use Rattle.cue_line.specs.Line.{line_refusal, board_refusal}
use Rattle.cues.specs.Add.{add_refusal, free_slot}
use Rattle.cues.specs.Due.{is_due, next_due}
use Rattle.std.specs.Prelude.{Some, None, Ok, Err}

-- sizes that are wrong
module _ (b : List ℕ) (w : is_sized b ≡ false) where
  wrong : (l : List Cue) → board_refusal b l ≡ 1
  unfolding board_refusal
  wrong l = rw w

  pub asked_wrong : (time : ℕ) → Err 1 ≡ next_due b time
  unfolding next_due
  asked_wrong time = rw (wrong (cues b))

  pub offered_wrong : (q : Cue) → Err 1 ≡ free_slot b q
  unfolding free_slot add_refusal
  offered_wrong q = rw (wrong (cues b ++ (q ∷ [])))

module _ (b : List ℕ) (k n h : ℕ) (o : IsRight b k n h) where
  pub line_is : tabulate n (cue_at k b) ≡ cues b
  unfolding cues
  line_is = rw (o.capacity_is, o.stored_is)

  right : (l : List Cue) → board_refusal b l ≡ line_refusal l
  unfolding board_refusal
  right l = rw o.sized

  -- r: the refusal of the cues that are stored
  module _ (time r : ℕ) (e : r ≡ line_refusal (tabulate n (cue_at k b))) where
    refusal_is : board_refusal b (cues b) ≡ r
    refusal_is = right (cues b) ∙ sym (e ∙ ap line_refusal line_is)

    pub asked_refused : (r ≡ 0 → ⊥) → Err r ≡ next_due b time
    unfolding next_due
    asked_refused z = rw (refusal_is, ne_eqb r 0 z)

    module _ (z : r ≡ 0) where
      pub all_handed : n ≤ h → Ok None ≡ next_due b time
      unfolding next_due is_due
      all_handed g = rw (refusal_is, eq-eqb r 0 z, ← o.stored_is, ← o.handed_is, le-ltb h n g)

      module _ (start : ℕ) (g : h < n) (s : start ≡ (cue_at k b h).start) where
        pub not_yet : time < start → Ok None ≡ next_due b time
        unfolding next_due is_due
        not_yet t = rw (refusal_is, eq-eqb r 0 z, ← o.stored_is, ← o.handed_is, lt-ltb h n g, ← o.capacity_is, ← s, lt-leb start time t)

        pub now_due : start ≤ time → Ok (Some (record { capacity = k; index = h })) ≡ next_due b time
        unfolding next_due is_due
        now_due t = rw (refusal_is, eq-eqb r 0 z, ← o.stored_is, ← o.handed_is, lt-ltb h n g, ← o.capacity_is, ← s, le-leb start time t)

  -- r: the refusal with an offered cue in line
  module _ (q : Cue) (r : ℕ) (e : r ≡ line_refusal (tabulate n (cue_at k b) ++ (q ∷ []))) where
    offer_is : board_refusal b (cues b ++ (q ∷ [])) ≡ r
    offer_is = right (cues b ++ (q ∷ [])) ∙ sym (e ∙ ap (λ (l : List Cue). line_refusal (l ++ (q ∷ []))) line_is)

    pub offer_refused : (r ≡ 0 → ⊥) → Err r ≡ free_slot b q
    unfolding free_slot add_refusal
    offer_refused z = rw (offer_is, ne_eqb r 0 z, ne_eqb r 0 z)

    pub board_full : r ≡ 0 → n ≡ k → Err 12 ≡ free_slot b q
    unfolding free_slot add_refusal
    board_full z g = rw (offer_is, eq-eqb r 0 z, ← o.stored_is, ← o.capacity_is, eq-eqb n k g)

    pub slot_free : r ≡ 0 → (n ≡ k → ⊥) → Ok (record { capacity = k; index = n }) ≡ free_slot b q
    unfolding free_slot add_refusal
    slot_free z g = rw (offer_is, eq-eqb r 0 z, ← o.stored_is, ← o.capacity_is, ne_eqb n k g)
