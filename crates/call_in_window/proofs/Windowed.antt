-- A call in a window, from what the call and the window's check gave. Assumes nothing.
use mathlib.Core.Path.{◌≡◌, sym, ap, ◌∙◌, subst}
use Prim.Native.Nat.{ℕ, ◌+◌, ◌-◌, ◌<◌, ◌≤◌}
use native.Mathlib.Omega.{arith}
use mathlib.Core.List.{List}
use lib.Dec.{eqb}
use lib.ListN.{length, get_or, take}
use borrow.Author.Tests.{eq-eqb, ne_eqb}
use Rattle.columns.proofs.Tests.{by_test}
use Rattle.words.proofs.Copied.{put_back}
use Rattle.machine.specs.Encode.{cpu_place, max_image_size}
use Rattle.image.specs.Refusal.{size_c, size_n}
use Rattle.image.proofs.Admitted.{passed}
use Rattle.answer.specs.declared.Answer.{Answer}
use Rattle.context_ops.specs.Reply.{Reply, reply}
use Rattle.asked.specs.OfReply.{BlockInside}
use Rattle.calls.specs.Call.{call}
use Rattle.calls.proofs.Accepts.{Accepts, accepts}
use Rattle.operations.proofs.Kept.{rule_accepts}
use Rattle.window.specs.declared.Record.{Record}
use Rattle.window.specs.Window.{refusal, added}
use Rattle.call_in_window.specs.CallInWindow.{window_reply, beside, turn_at, own_first, in_window, call_in_window}

-- an accepted call's image is no longer than a scratch, and has the CPU's block
pub accepts_short : {cpu time : ℕ} (m : List ℕ) → Accepts m cpu time → length m ≤ max_image_size
accepts_short {cpu} {time} m s = let p = passed time m s.none in omega (arith, p.size, p.names.1, p.cpus.1)

pub accepts_inside : {cpu time : ℕ} (m : List ℕ) → Accepts m cpu time → BlockInside (size_n m) cpu m
accepts_inside {cpu} {time} m s =
    let p = passed time m s.none
    in let b : cpu < size_c m = s.below
    in record { contexts = p.names.1; cpus = omega (arith, p.cpus.1); inside = omega (arith, p.size) }

-- place: the block's, as the code has it
pub turn_is : (n cpu time place : ℕ) (m : List ℕ) (t : ℕ) → place ≡ cpu_place n cpu → t ≡ time - get_or m (place + 4) 0
    → record { context = get_or m (place + 2) 0; time = t } ≡ turn_at n cpu time m
turn_is n cpu time place m t e h = rw (h, e)

module _ {a : Answer} {m' : List ℕ} (m : List ℕ) (operation cpu time context : ℕ) (e : reply a m' ≡ call m operation cpu time context) where
  abbrev y : Reply
  y = call m operation cpu time context

  same_refusal : a.refusal ≡ y.answer.refusal
  same_refusal = ap (λ (z : Reply). z.answer.refusal) e

  same_rule : a.rule ≡ y.answer.rule
  same_rule = ap (λ (z : Reply). z.answer.rule) e

  -- the call's own number
  pub own_stays : (number : ℕ) → (a.refusal ≡ 0 → ⊥) → reply a m' ≡ own_first m number y
  unfolding own_first
  own_stays number n = rw (ne_eqb y.answer.refusal 0 (λ z. n (same_refusal ∙ z))) e

  accepted : a.refusal ≡ 0 → Accepts m cpu time
  accepted z = accepts m cpu time context z operation e

  -- len words of m were kept in the scratch s, and are back in m''
  pub put_back_refuses : {r : Answer} (number len : ℕ) (s m'' : List ℕ) → a.refusal ≡ 0 → (length m ≤ max_image_size → len ≡ length m)
      → take len s ≡ take len m → take len m'' ≡ take len s → length m'' ≡ length m
      → r ≡ record { refusal = number; result = 0; interrupt = 0; rule = 0 } → reply r m'' ≡ own_first m number y
  unfolding own_first
  put_back_refuses number len s m'' z short f g l h =
      let q : len ≡ length m = short (accepts_short m (accepted z))
      in let b : m'' ≡ m = put_back m s m'' (rw q at f) (rw q at g) l
      in rw (eq-eqb y.answer.refusal 0 (sym same_refusal ∙ z)) (λ j. reply (h j) (b j))

  -- n and number: of the image's contexts and the window's refusal, as the code has them
  module _ (w : List ℕ) (n number : ℕ) (hn : n ≡ size_n m) (f : number ≡ refusal n w) where
    told : refusal (size_n m) w ≡ number
    told = ap (λ (k : ℕ). refusal k w) (sym hn) ∙ sym f

    abbrev r : Record
    r = turn_at (size_n m) cpu time m

    undecided_by : (y' : Reply) (r' : Record) → y'.answer.rule ≡ 0 → number ≡ 0 → beside y' w ≡ in_window m w (refusal (size_n m) w) r' y'
    unfolding in_window
    undecided_by y' r' d z =
        by_test (eqb y'.answer.refusal 0) (λ t. rw (t, told, z, d)) (λ t. rw t)

    -- no decision
    pub undecided : a.rule ≡ 0 → number ≡ 0 → window_reply a m' w ≡ call_in_window m w operation cpu time context
    undecided d z = ap (λ (u : Reply). beside u w) e ∙ undecided_by y r (sym same_rule ∙ d) z

    -- x: what the code read before the call, of the window w' that it left
    pub decided : {w' : List ℕ} (x : Record) → (BlockInside n cpu m → x ≡ turn_at n cpu time m) → (a.rule ≡ 0 → ⊥) → number ≡ 0 → w' ≡ added w x
        → window_reply a m' w' ≡ call_in_window m w operation cpu time context
    unfolding in_window
    decided {w'} x h d z g =
        let o : y.answer.refusal ≡ 0 = rule_accepts m operation cpu time context (λ k. d (same_rule ∙ k))
        in let i : BlockInside n cpu m = subst (λ (k : ℕ). BlockInside k cpu m) (sym hn) (accepts_inside m (accepted (same_refusal ∙ o)))
        in let q : x ≡ r = h i ∙ ap (λ (k : ℕ). turn_at k cpu time m) hn
        in rw (eq-eqb y.answer.refusal 0 o, told, z, ne_eqb y.answer.rule 0 (λ k. d (same_rule ∙ k)))
        (λ j. window_reply (e j).answer (e j).image ((g ∙ ap (added w) q) j))

-- the window is refused: a and m' are what comes of that
pub refused_in_window : {a : Answer} {m' : List ℕ} (m w : List ℕ) (operation cpu time context n number : ℕ) → n ≡ size_n m → number ≡ refusal n w → (number ≡ 0 → ⊥)
    → reply a m' ≡ own_first m number (call m operation cpu time context) → window_reply a m' w ≡ call_in_window m w operation cpu time context
unfolding in_window own_first
refused_in_window {a} {m'} m w operation cpu time context n number hn f z e =
    let y : Reply = call m operation cpu time context
    in let t : refusal (size_n m) w ≡ number = ap (λ (k : ℕ). refusal k w) (sym hn) ∙ sym f
    in ap (λ (u : Reply). beside u w) e
    ∙ by_test (eqb y.answer.refusal 0) (λ b. rw (b, t, ne_eqb number 0 z)) (λ b. rw b)
