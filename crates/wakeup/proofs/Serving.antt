-- The wake-ups served in order: one lemma for each need. Assumes nothing.
use mathlib.Core.Path.{◌≡◌, refl, sym, ap, ◌∙◌, subst}
use mathlib.Core.Bool.{Bool, true, false}
use mathlib.Core.List.{List, [], ◌∷◌, ◌++◌, map, map-append}
use Prim.Native.Nat.{ℕ, zero, suc, ◌+◌, ◌*◌, ◌<◌, ◌≤◌}
use native.Mathlib.Omega.{arith}
use native.Mathlib.Numerals.{add-one}
use lib.ListN.{length, get_or, take, drop, take-append-drop}
use lib.Seq.{take-suc, take_all}
use Rattle.columns.specs.Common.{fold}
use Rattle.columns.proofs.Tests.{never}
use Rattle.machine.specs.Machine.{Machine}
use Rattle.machine.specs.Encode.{encode}
use Rattle.machine.specs.Shape.{Fits, Image}
use Rattle.model.specs.State.{State, state_of}
use Rattle.model.specs.Wakeup as definition
use Rattle.model.specs.Wakeup.{wakeups, drained, serve_wakeup, serve_wakeups}
use Rattle.model.proofs.NoRoom.{serve_full}
use Rattle.stages.specs.Stage.{put_state, Staged, Ranged}
use Rattle.stages.proofs.Compose.{state_put, stage_then, stage_as}
use Rattle.wakeup_judge.specs.declared.Wakeup.{Wakeup}
use Rattle.wakeup_judge.specs.Judge.{wakeup_of}
use Rattle.wakeup_read.specs.Read.{wakeups_in, max_wakeups}
use Rattle.wakeup.specs.Paced.{Slow, Paced, Named}
use Rattle.wakeup.proofs.Pacing.{slow_more, slow_serve}
use Rattle.stages.proofs.Reading.{stage_none}
use Rattle.wakeup.proofs.Listed.{wakeups_named}
use Rattle.numbers.specs.Limits.{max_number}
use Rattle.weights.specs.Weights.{max_weight}
use Rattle.stages.specs.Bounds.{b_waking}

-- the state after the first i of the wake-ups ws
abbrev pub after : List Wakeup → ℕ → State → State
after ws i s = fold serve_wakeup s (map wakeup_of (take i ws))

fold_append : {A B : Type 0} (f : B → A → B) (b : B) (xs ys : List A) → fold f b (xs ++ ys) ≡ fold f (fold f b xs) ys
fold_append f b [] ys = refl
fold_append f b (x ∷ xs) ys = fold_append f (f b x) xs ys

after_next : (ws : List Wakeup) (i : ℕ) (w : Wakeup) (s : State) → i < length ws → after ws (suc i) s ≡ serve_wakeup (after ws i s) (wakeup_of (get_or ws i w))
after_next ws i w s h =
    ap (λ (l : List Wakeup). fold serve_wakeup s (map wakeup_of l)) (take-suc ws i w h)
    ∙ ap (fold serve_wakeup s) (map-append wakeup_of (take i ws) (get_or ws i w ∷ []))
    ∙ fold_append serve_wakeup s (map wakeup_of (take i ws)) (wakeup_of (get_or ws i w) ∷ [])

-- without room it stays so
fold_full : (s : State) (l : List definition.Wakeup) → s.no_room ≡ true → (fold serve_wakeup s l).no_room ≡ true
fold_full s [] e = e
fold_full s (w ∷ ws) e = fold_full (serve_wakeup s w) ws (serve_full s w e)

after_full : (ws : List Wakeup) (i : ℕ) (s : State) → (after ws i s).no_room ≡ true → (fold serve_wakeup s (map wakeup_of ws)).no_room ≡ true
after_full ws i s e =
    let all : fold serve_wakeup s (map wakeup_of ws) ≡ fold serve_wakeup (after ws i s) (map wakeup_of (drop i ws)) =
    ap (λ (l : List Wakeup). fold serve_wakeup s (map wakeup_of l)) (sym (take-append-drop i ws))
    ∙ ap (fold serve_wakeup s) (map-append wakeup_of (take i ws) (drop i ws))
    ∙ fold_append serve_wakeup s (map wakeup_of (take i ws)) (map wakeup_of (drop i ws))
    in rw all (fold_full (after ws i s) (map wakeup_of (drop i ws)) e)

-- a stage without room, and all that sets the mark where it does
staged_full : {c n k : ℕ} {m m' m'' : List ℕ} {f f' : State → State} → Staged c n k m m' true f → ((s : State) → (f s).no_room ≡ true → (f' s).no_room ≡ true) → Staged c n k m m'' true f'
staged_full {k = k} t h =
    record {
      image = λ e. never e;
      stage = λ M e o.
          record { room = sym (h (state_of k M) (sym (t.stage M e o).room)); after = λ y. never y; fits = λ y. never y; answer = λ y. never y };
    }

pub paced_more : {c n k b w : ℕ} {m : List ℕ} (w' : ℕ) → w ≤ w' → Paced c n k b w m → Paced c n k b w' m
paced_more w' h p = record { M = p.M; eq = p.eq; fits = p.fits; slow = slow_more w' h p.slow }

-- a stage that keeps the pace
pub paced_by : {c n k b w w' : ℕ} {m m' : List ℕ} {f : State → State} → k < c → ((s : State) → Slow n b w s → Slow n b w' (f s)) → Staged c n k m m' false f → Paced c n k b w m → Paced c n k b w' m'
paced_by {n = n} {k = k} {b = b} {w' = w'} {f = f} h g t p =
    let a = t.stage p.M p.eq p.fits
    in let l : k < length p.M.cpus = omega (arith, p.fits.cpus)
    in let z : state_of k (put_state k (f (state_of k p.M)) p.M) ≡ f (state_of k p.M) = state_put k (f (state_of k p.M)) p.M l (sym a.room)
    in record { M = put_state k (f (state_of k p.M)) p.M; eq = a.after refl; fits = a.fits refl; slow = subst (Slow n b w') (sym z) (g (state_of k p.M) p.slow) }

-- the invariant: m₀ and m are the image where the loop begins and now
pub record ServeLoop (c n k : ℕ) (m₀ m : List ℕ) (ws : List Wakeup) (i : ℕ) : Type 0 where
  pub served : Staged c n k m₀ m false (λ (s : State). after ws i s)
  pub paced : Paced c n k max_number (max_number + max_weight * i) m

pub serve_start : {c n k : ℕ} {m : List ℕ} (ws : List Wakeup) → Image c n m → Paced c n k max_number max_number m → ServeLoop c n k m m ws 0
serve_start ws i p = record { served = stage_none i; paced = paced_more _ (omega arith) p }

all_at : (n : ℕ) (ws : List Wakeup) (i : ℕ) (w : Wakeup) → Named n (map wakeup_of ws) → i < length ws → (get_or ws i w).context_ref < n
all_at n [] i w a b = absurd (omega arith)
all_at n (v ∷ vs) zero w a b = a.0
all_at n (v ∷ vs) (suc i) w a b = all_at n vs i w a.1 (omega arith)

-- w: what the code reads past the end
module _ {c n k : ℕ} {m₀ m : List ℕ} {ws : List Wakeup} {i : ℕ} (h : k < c) (l : ServeLoop c n k m₀ m ws i) (b : i < length ws) (w : Wakeup) where
  pub serve_named : Named n (map wakeup_of ws) → (get_or ws i w).context_ref < n
  serve_named a = all_at n ws i w a b

  pub serve_paced : length ws ≤ max_wakeups → Paced c n k max_number b_waking m
  serve_paced s = paced_more b_waking (omega arith) l.paced

  once_more : {m' : List ℕ} {r : Bool} → Staged c n k m m' r (λ (s : State). serve_wakeup s (wakeup_of (get_or ws i w))) → Staged c n k m₀ m' r (λ (s : State). after ws (suc i) s)
  once_more t = stage_as (stage_then h l.served t) (λ M e o. (sym (after_next ws i w (state_of k M) b), λ y z. refl))

  pub serve_no_room : {m' : List ℕ} {r : Bool} → r ≡ true → Staged c n k m m' r (λ (s : State). serve_wakeup s (wakeup_of (get_or ws i w)))
      → Staged c n k m₀ m' true (λ (s : State). fold serve_wakeup s (map wakeup_of ws))
  serve_no_room {m'} e t =
      staged_full (subst (λ (y : Bool). Staged c n k m₀ m' y (λ (s : State). after ws (suc i) s)) e (once_more t)) (λ s f. after_full ws (suc i) s f)

  pub serve_next : {m' : List ℕ} {r : Bool} → Named n (map wakeup_of ws) → r ≡ false → Staged c n k m m' r (λ (s : State). serve_wakeup s (wakeup_of (get_or ws i w)))
      → ServeLoop c n k m₀ m' ws (i + 1)
  serve_next {m'} a e t =
      let u = subst (λ (y : Bool). Staged c n k m m' y (λ (s : State). serve_wakeup s (wakeup_of (get_or ws i w)))) e t
      in record {
        served = rw (add-one i) (once_more u);
        paced = paced_more (max_number + max_weight * (i + 1)) (omega arith)
            (paced_by h (λ s o. slow_serve s (wakeup_of (get_or ws i w)) o (serve_named a)) u l.paced);
      }

pub serve_end : {c n k : ℕ} {m₀ m : List ℕ} {ws : List Wakeup} {i : ℕ} → ServeLoop c n k m₀ m ws i → length ws ≤ i
    → Staged c n k m₀ m false (λ (s : State). fold serve_wakeup s (map wakeup_of ws))
serve_end {c} {n} {k} {m₀} {m} {ws} {i} l b =
    subst (λ (y : List Wakeup). Staged c n k m₀ m false (λ (s : State). fold serve_wakeup s (map wakeup_of y))) (take_all i ws b) l.served

-- the whole
module _ {c n k : ℕ} {m : List ℕ} (time len : ℕ) (d : List Wakeup) (h : k < c) (f : (M : Machine) → m ≡ encode M → Fits c n M → wakeups_in d len ≡ wakeups time (state_of k M)) where
  pub read_named : Image c n m → Named n (wakeups_in d len)
  read_named i = subst (Named n) (sym (f i.M i.eq i.fits)) (wakeups_named time (state_of k i.M) (i.fits.cpu k h))

  pub whole : {m' m'' : List ℕ} {r : Bool} → Staged c n k m m' false (λ (s : State). drained time s) → Staged c n k m' m'' r (λ (s : State). fold serve_wakeup s (wakeups_in d len))
      → Staged c n k m m'' r (λ (s : State). serve_wakeups time s)
  unfolding serve_wakeups
  whole t u = stage_as (stage_then h t u) (λ M e o. (ap (λ (y : List definition.Wakeup). fold serve_wakeup (drained time (state_of k M)) y) (f M e o), λ y z. refl))

pub drained_paced : {c n k t b : ℕ} {m m' : List ℕ} (time : ℕ) → k < c → Ranged c n t b m → Staged c n k m m' false (λ (s : State). drained time s) → Paced c n k b b m'
drained_paced {k = k} {b = b} time h g t =
    let s = g.below.cpu k h
    in paced_by {w = b} h (λ s o. record { vtime = o.vtime; v = o.v; total_weight = o.total_weight }) t
    (record { M = g.M; eq = g.eq; fits = g.fits; slow = record { vtime = λ x y. (g.below.context x y).vtime; v = s.v; total_weight = s.total_weight } })
