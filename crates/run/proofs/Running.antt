-- The loop over the calls: after i of them, what the first i come to. Assumes nothing.
use mathlib.Core.Path.{◌≡◌, refl, sym, ap, ◌∙◌}
use mathlib.Core.List.{List, [], ◌∷◌, ◌++◌}
use Prim.Native.Nat.{ℕ, suc, ◌+◌, ◌*◌, ◌/◌, ◌%◌, ◌<◌, ◌≤◌}
use native.Mathlib.Omega.{arith}
use native.Mathlib.Numerals.{add-one}
use lib.ListN.{length, get_or, set, take, drop, length-append}
use lib.Seq.{take-suc, take_all, take_at, length-take-le, sets, sets-eq}
use borrow.Author.Tests.{eq-eqb, ne_eqb}
use Rattle.columns.specs.Common.{fold}
use Rattle.columns.proofs.Tabulate.{length_tabulate, get_d_tabulate}
use Rattle.answer.specs.declared.Answer.{Answer}
use Rattle.context_ops.specs.Reply.{Reply, reply}
use Rattle.numbers.specs.Limits.{max_word}
use Rattle.operations.specs.declared.arguments.Call.{Call}
use Rattle.run.specs.Run.{call_at, calls_of, answer_words, put_answer, Run, ran, reply_of, one_more, run_calls, run_reply, lengths_fit, run}

-- four stores, one after the other
pub stored : (w : List ℕ) (i : ℕ) (a : Answer) → 4 * i + 4 ≤ length w
    → set (set (set (set w (4 * i) a.refusal) (4 * i + 1) a.result) (4 * i + 2) a.interrupt) (4 * i + 3) a.rule ≡ put_answer w i a
unfolding put_answer
stored w i a h =
    let e : sets w (4 * i) (answer_words a) ≡ take (4 * i) w ++ answer_words a ++ drop (4 * i + 4) w = sets-eq (answer_words a) w (4 * i) h in
    let u : 4 * i + 1 ≡ suc (4 * i) = omega arith in
    let v : 4 * i + 2 ≡ suc (suc (4 * i)) = omega arith in
    let x : 4 * i + 3 ≡ suc (suc (suc (4 * i))) = omega arith in
    rw (u, v, x) e

-- the first answers, with the next
answers_more : (w : List ℕ) (i : ℕ) (a : Answer) → 4 * i + 4 ≤ length w → take (4 * (i + 1)) (put_answer w i a) ≡ take (4 * i) w ++ answer_words a
unfolding put_answer
answers_more w i a h =
    take_at (take (4 * i) w ++ answer_words a) (drop (4 * i + 4) w) (4 * (i + 1))
    (length-append (take (4 * i) w) (answer_words a) ∙ rw (length-take-le (4 * i) w (omega arith)) (omega arith))

no_call : Call
no_call = record { operation = 0; cpu = 0; time = 0; context = 0 }

fold_append : {A B : Type 0} (f : B → A → B) (b : B) (xs ys : List A) → fold f b (xs ++ ys) ≡ fold f (fold f b xs) ys
fold_append f b [] ys = refl
fold_append f b (x ∷ xs) ys = fold_append f (f b x) xs ys

-- one call more of the list
run_next : (m calls : List ℕ) (i : ℕ) → i < length calls / 4 → run_calls m (take (i + 1) (calls_of calls)) ≡ one_more (run_calls m (take i (calls_of calls))) (call_at calls i)
unfolding run_calls calls_of
run_next m calls i h =
    let cs = calls_of calls in
    let l : i < length cs = rw (length_tabulate (length calls / 4) (call_at calls)) h in
    rw (add-one i, take-suc cs i no_call l, fold_append one_more (ran m []) (take i cs) (get_or cs i no_call ∷ []), get_d_tabulate (length calls / 4) i (call_at calls) no_call h)

-- the invariant: the image m and the answers w after i calls on m₀
pub record Loop (m₀ calls : List ℕ) (count : ℕ) (m w : List ℕ) (i : ℕ) : Type 0 where
  pub here : i ≤ count
  pub long : length w ≡ length calls
  pub is : ran m (take (4 * i) w) ≡ run_calls m₀ (take i (calls_of calls))

pub loop_first : (m calls w : List ℕ) (count : ℕ) → length w ≡ length calls → Loop m calls count m w 0
unfolding run_calls
loop_first m calls w count l = record { here = omega arith; long = l; is = refl }

pub loop_next : (m₀ calls : List ℕ) (count : ℕ) (m w : List ℕ) (i : ℕ) (a : Answer) (m' w' : List ℕ) (q : Call) → 4 * count ≡ length calls → i < count → Loop m₀ calls count m w i
    → q ≡ call_at calls i → reply a m' ≡ reply_of m q → w' ≡ put_answer w i a → length w' ≡ length w → Loop m₀ calls count m' w' (i + 1)
loop_next m₀ calls count m w i a m' w' q z h o f g p l =
    let e : reply a m' ≡ reply_of m (call_at calls i) = rw f at g in
    let b : 4 * i + 4 ≤ length w = omega (arith, o.long) in
    let c : i < length calls / 4 = omega arith in
    let image : (reply_of m (call_at calls i)).image ≡ m' = sym (ap (λ (y : Reply). y.image) e) in
    let answer : (reply_of m (call_at calls i)).answer ≡ a = sym (ap (λ (y : Reply). y.answer) e) in
    record {
      here = omega arith;
      long = l ∙ o.long;
      is =
          rw (p, answers_more w i a b) (sym (rw (image, answer) refl))
          ∙ ap (λ (r : Run). one_more r (call_at calls i)) o.is ∙ sym (run_next m₀ calls i c);
    }

pub loop_last : (m₀ calls : List ℕ) (count : ℕ) (m w : List ℕ) (i : ℕ) → 4 * count ≡ length calls → count ≤ i → Loop m₀ calls count m w i → ran m w ≡ run_calls m₀ (calls_of calls)
unfolding calls_of
loop_last m₀ calls count m w i z h o =
    let cs = calls_of calls in
    let e : length cs ≤ i = rw (length_tabulate (length calls / 4) (call_at calls)) (omega arith) in
    let b : length w ≤ 4 * i = omega (arith, o.long) in
    rw (take_all (4 * i) w b, take_all i cs e) at o.is

-- the whole call
pub unfit_calls : (m calls w : List ℕ) → (length calls % 4 ≡ 0 → ⊥) → run_reply max_word m w ≡ run m calls w
unfolding run lengths_fit
unfit_calls m calls w n = rw (ne_eqb (length calls % 4) 0 n)

pub unfit_answers : (m calls w : List ℕ) → length calls % 4 ≡ 0 → (length w ≡ length calls → ⊥) → run_reply max_word m w ≡ run m calls w
unfolding run lengths_fit
unfit_answers m calls w z n = rw (z, ne_eqb (length w) (length calls) n)

pub all_made : (m calls w m' w' : List ℕ) (r : ℕ) → length calls % 4 ≡ 0 → length w ≡ length calls → r ≡ length calls / 4 → ran m' w' ≡ run_calls m (calls_of calls)
    → run_reply r m' w' ≡ run m calls w
unfolding run lengths_fit
all_made m calls w m' w' r z l e h = rw (z, eq-eqb (length w) (length calls) l, e, ← h)
