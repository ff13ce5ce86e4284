-- What the scan of the queue finds. Assumes nothing.
use Rattle.std.specs.Prelude.{if◌then◌else◌, None, Option, Some, is_some}
use mathlib.Core.Path.{◌≡◌, refl, sym, ◌∙◌}
use mathlib.Core.Bool.{Bool, true, false, not, ◌&&◌}
use mathlib.Core.List.{List, [], ◌∷◌}
use mathlib.Core.Logic.{◌≢◌}
use Prim.Native.Nat.{ℕ, ◌<◌}
use native.Mathlib.Omega.{arith}
use lib.Seq.{get_or-set_other}
use borrow.Author.Tests.{ltb-true, le-ltb, ne_eqb}
use Rattle.entries.specs.declared.Entry.{Entry}
use Rattle.context.specs.declared.Context.{Context}
use Rattle.columns.specs.Common.{fold}
use Rattle.percpu.specs.Cpu.{Cpu}
use Rattle.machine.specs.Machine.{context_at, no_context}
use Rattle.model.specs.Scan.{
  Scan,
  Visit,
  pass,
  gone,
  blocked,
  no_addr_space,
  ready,
  is_ready,
  above,
  below,
  is_of,
  ineligible_min_vtime,
  is_eligible,
  judge,
  is_ready_in,
  visit,
  visited,
  scan_step,
  scan_start,
  scan,
}
use Rattle.model.proofs.Cases.{by_test, and_both, not_is_true}
use Rattle.model.proofs.Lists.{All}

-- the first of a list that passes a test
abbrev pub first : {A : Type 0} → (A → Bool) → List A → Option A
first p [] = None
first p (x ∷ xs) = if p x then Some x else first p xs

-- the first of least vtime under h, of those that pass a test; l: the best so far
abbrev pub least : Option ℕ → (Entry → Bool) → Option Entry → List Entry → Option Entry
least h p l [] = l
least h p l (e ∷ es) = least h p (if p e && below (ineligible_min_vtime l h) e.vtime then Some e else l) es

-- no two entries of one context
abbrev pub Distinct : List Entry → Type 0
Distinct [] = Unit {0}
Distinct (e ∷ es) = All (λ f. f.context_ref ≢ e.context_ref) es × Distinct es

above_not_below : (o : Option ℕ) (n : ℕ) → above o n ≡ true → below o n ≡ false
above_not_below None n e = sym e
above_not_below (Some m) n e = let k : m < n = ltb-true m n e in le-ltb n m (omega arith)

module _ (k time : ℕ) (cpu : Cpu) (h : Option ℕ) where
  abbrev pub on_time : Entry → Bool
  on_time = is_eligible cpu

  abbrev pub verdict : List Context → Entry → Visit
  verdict cs e = judge k time cpu (context_at cs e.context_ref) e

  visited_best : (s : Scan) (e : Entry) (v : Visit) → (visited k time cpu h s e v).eligible_best ≡ if is_ready v && on_time e then Some e else s.eligible_best
  unfolding visited
  visited_best s e pass = refl
  visited_best s e gone = refl
  visited_best s e (blocked c) = refl
  visited_best s e (no_addr_space c) = refl
  visited_best s e (ready c) = refl

  visited_late : (s : Scan) (e : Entry) (v : Visit)
      → (visited k time cpu h s e v).ineligible_best ≡ if is_ready v && not (on_time e) && below (ineligible_min_vtime s.ineligible_best h) e.vtime then Some e else s.ineligible_best
  unfolding visited
  visited_late s e pass = refl
  visited_late s e gone = refl
  visited_late s e (blocked c) = refl
  visited_late s e (no_addr_space c) = refl
  visited_late s e (ready c) = by_test (on_time e) (λ t. rw t) (λ t. rw t)

  visited_frame : (s : Scan) (e : Entry) (v : Visit) (y : ℕ) → y ≢ e.context_ref → context_at (visited k time cpu h s e v).contexts y ≡ context_at s.contexts y
  unfolding visited
  visited_frame s e pass y n = refl
  visited_frame s e gone y n = refl
  visited_frame s e (blocked c) y n = get_or-set_other s.contexts e.context_ref y c no_context n
  visited_frame s e (no_addr_space c) y n = get_or-set_other s.contexts e.context_ref y c no_context n
  visited_frame s e (ready c) y n = get_or-set_other s.contexts e.context_ref y c no_context n

  -- a scan that has found an eligible entry stands still
  pub found_stays : (s : Scan) (es : List Entry) → is_some s.eligible_best ≡ true → fold (scan_step k time cpu h) s es ≡ s
  unfolding scan_step
  found_stays s [] t = refl
  found_stays s (e ∷ es) t = rw t (found_stays s es t)

  -- what the scan keeps of the entries to come: their contexts are as at the start, and none is the best so far
  abbrev pub Fresh : List Context → Scan → Entry → Type 0
  Fresh cs s f = (context_at s.contexts f.context_ref ≡ context_at cs f.context_ref) × (is_of s.ineligible_best f.context_ref ≡ false)

  -- an entry too late to matter
  abbrev pub beyond : Scan → Entry → Bool
  beyond s e = above (ineligible_min_vtime s.ineligible_best h) e.vtime && not (on_time e)

  pub step_is : (cs : List Context) (s : Scan) (e : Entry) → s.eligible_best ≡ None → Fresh cs s e
      → scan_step k time cpu h s e ≡ visited k time cpu h s e (if beyond s e then pass else verdict cs e)
  unfolding scan_step visit
  step_is cs s e b f = rw (b, f.1, f.0)

  pub step_best : (cs : List Context) (s : Scan) (e : Entry) → s.eligible_best ≡ None → Fresh cs s e
      → (scan_step k time cpu h s e).eligible_best ≡ if is_ready_in k time cpu cs e && on_time e then Some e else None
  step_best cs s e b f =
      rw (step_is cs s e b f, visited_best s e (if beyond s e then pass else verdict cs e), b)
      (by_test (beyond s e) (λ t. rw (t, not_is_true (on_time e) (and_both (above (ineligible_min_vtime s.ineligible_best h) e.vtime) _ t).1) (split (is_ready_in k time cpu cs e)))
      (λ t. rw t))
    where
      split : (r : Bool) → None ≡ if r && false then Some e else None
      split true = refl
      split false = refl

  step_late : (cs : List Context) (s : Scan) (e : Entry) → s.eligible_best ≡ None → Fresh cs s e
      → (scan_step k time cpu h s e).ineligible_best ≡ if (is_ready_in k time cpu cs e && not (on_time e)) && below (ineligible_min_vtime s.ineligible_best h) e.vtime then Some e else s.ineligible_best
  step_late cs s e b f =
      rw (step_is cs s e b f, visited_late s e (if beyond s e then pass else verdict cs e))
      (by_test (beyond s e)
      (λ t. rw (t, above_not_below _ _ (and_both (above (ineligible_min_vtime s.ineligible_best h) e.vtime) _ t).0) (split (is_ready_in k time cpu cs e && not (on_time e))))
      (λ t. rw t))
    where
      split : (r : Bool) → s.ineligible_best ≡ if r && false then Some e else s.ineligible_best
      split true = refl
      split false = refl

  -- an entry of another context is as fresh after the step
  step_fresh : (cs : List Context) (s : Scan) (e f : Entry) → s.eligible_best ≡ None → Fresh cs s e → f.context_ref ≢ e.context_ref → Fresh cs s f
      → Fresh cs (scan_step k time cpu h s e) f
  step_fresh cs s e f b fe n ff = (
    rw (step_is cs s e b fe) (visited_frame s e _ f.context_ref n ∙ ff.0),
    rw (step_late cs s e b fe) (split ((is_ready_in k time cpu cs e && not (on_time e)) && below (ineligible_min_vtime s.ineligible_best h) e.vtime)),
  )
    where
      split : (r : Bool) → is_of (if r then Some e else s.ineligible_best) f.context_ref ≡ false
      split true = ne_eqb e.context_ref f.context_ref (λ m. n (sym m))
      split false = ff.1

  pub all_fresh : (cs : List Context) (s : Scan) (e : Entry) (es : List Entry) → s.eligible_best ≡ None → Fresh cs s e → All (λ f. f.context_ref ≢ e.context_ref) es
      → All (Fresh cs s) es → All (Fresh cs (scan_step k time cpu h s e)) es
  all_fresh cs s e [] b fe n a = tt
  all_fresh cs s e (f ∷ es) b fe n a = (step_fresh cs s e f b fe n.0 a.0, all_fresh cs s e es b fe n.1 a.1)

  -- the scan's best is the first ready entry that is eligible
  scan_best_from : (cs : List Context) (s : Scan) (es : List Entry) → s.eligible_best ≡ None → Distinct es → All (Fresh cs s) es
      → (fold (scan_step k time cpu h) s es).eligible_best ≡ first (λ e. is_ready_in k time cpu cs e && on_time e) es
  scan_best_from cs s [] b d a = b
  scan_best_from cs s (e ∷ es) b d a =
      by_test (is_ready_in k time cpu cs e && on_time e)
      (λ t. rw t (let g = rw t at (step_best cs s e b a.0) in rw (found_stays (scan_step k time cpu h s e) es (rw g)) g))
      (λ t. rw t (scan_best_from cs (scan_step k time cpu h s e) es (rw t at (step_best cs s e b a.0)) d.1 (all_fresh cs s e es b a.0 d.0 a.1)))

  -- with none, its late one is the first of least vtime among the ready ones that are not
  scan_late_from : (cs : List Context) (s : Scan) (es : List Entry) → s.eligible_best ≡ None → Distinct es → All (Fresh cs s) es
      → first (λ e. is_ready_in k time cpu cs e && on_time e) es ≡ None
      → (fold (scan_step k time cpu h) s es).ineligible_best ≡ least h (λ e. is_ready_in k time cpu cs e && not (on_time e)) s.ineligible_best es
  scan_late_from cs s [] b d a n = refl
  scan_late_from cs s (e ∷ es) b d a n =
      by_test (is_ready_in k time cpu cs e && on_time e)
      (λ t. absurd (some_none (rw t at n)))
      (λ t. rw (← step_late cs s e b a.0)
      (scan_late_from cs (scan_step k time cpu h s e) es (rw t at (step_best cs s e b a.0)) d.1 (all_fresh cs s e es b a.0 d.0 a.1) (rw t at n)))
    where
      some_none : ◌≡◌ {A = Option Entry} (Some e) None → ⊥
      some_none z = let y : ◌≡◌ {A = ℕ} 0 1 = cc in omega arith

  pub start_fresh : (cs : List Context) (es : List Entry) → All (Fresh cs (scan_start k time cpu h cs)) es
  start_fresh cs [] = tt
  start_fresh cs (e ∷ es) = ((refl, refl), start_fresh cs es)

  pub scan_best : (cs : List Context) (q : List Entry) → Distinct q
      → (scan k time cpu h cs q).eligible_best ≡ first (λ e. is_ready_in k time cpu cs e && on_time e) q
  unfolding scan
  scan_best cs q d = scan_best_from cs (scan_start k time cpu h cs) q refl d (start_fresh cs q)

  pub scan_late : (cs : List Context) (q : List Entry) → Distinct q → (scan k time cpu h cs q).eligible_best ≡ None
      → (scan k time cpu h cs q).ineligible_best ≡ least h (λ e. is_ready_in k time cpu cs e && not (on_time e)) None q
  unfolding scan
  scan_late cs q d n = scan_late_from cs (scan_start k time cpu h cs) q refl d (start_fresh cs q) (sym (scan_best cs q d) ∙ n)

  -- the scan with an early exit is the fold
  unfoldable pub scan_until_found : Scan → List Entry → Scan
  scan_until_found s [] = s
  scan_until_found s (e ∷ es) = if is_some (scan_step k time cpu h s e).eligible_best then scan_step k time cpu h s e else scan_until_found (scan_step k time cpu h s e) es

  pub scan_until_found_is_fold : (s : Scan) (es : List Entry) → scan_until_found s es ≡ fold (scan_step k time cpu h) s es
  unfolding scan_until_found
  scan_until_found_is_fold s [] = refl
  scan_until_found_is_fold s (e ∷ es) =
      by_test (is_some (scan_step k time cpu h s e).eligible_best) (λ t. rw t (sym (found_stays (scan_step k time cpu h s e) es t))) (λ t. rw t (scan_until_found_is_fold (scan_step k time cpu h s e) es))
