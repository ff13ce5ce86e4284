-- The scan by ranks is the kernel's scan of the sorted queue. Assumes nothing.
use Rattle.std.specs.Prelude.{if◌then◌else◌, Option}
use mathlib.Core.Path.{◌≡◌, refl, sym, ap, ◌∙◌}
use mathlib.Core.Bool.{Bool, true, false, ◌||◌}
use mathlib.Core.List.{List, [], ◌∷◌}
use Prim.Native.Nat.{ℕ}
use Rattle.columns.specs.Common.{fold}
use Rattle.context.specs.declared.Context.{Context}
use Rattle.entries.specs.declared.Entry.{Entry}
use Rattle.entries.specs.Order.{entry_before}
use Rattle.percpu.specs.Cpu.{Cpu}
use Rattle.machine.specs.Machine.{context_at}
use Rattle.model.specs.Scan.{Scan, Visit, pass, gone, blocked, no_addr_space, ready, judge, visit, visited, scan_step, scan}
use Rattle.plain_model.specs.Rank.{by_rank}
use Rattle.plain_model.specs.State.{placed_cpu}
use Rattle.plain_model.specs.Scan as plain

pub fold_same : {A B : Type 0} (f g : B → A → B) → ((b : B) (a : A) → f b a ≡ g b a) → (b : B) (l : List A) → fold f b l ≡ fold g b l
fold_same f g h b [] = refl
fold_same f g h b (x ∷ l) = rw (h b x) (fold_same f g h (g b x) l)

-- three flags in a row
flags : {B : Type 0} (a b c : Bool) (s u : B) (f : Visit → B) (v : Visit) → f pass ≡ s → f v ≡ u
    → if a || (b || c) then s else u ≡ if a then s else f (if b then pass else if c then pass else v)
flags true b c s u f v p q = refl
flags false true c s u f v p q = sym p
flags false false true s u f v p q = sym p
flags false false false s u f v p q = sym q

module _ (k time : ℕ) (p : Cpu) (h : Option ℕ) where
  judged_is : (c : Context) (e : Entry) → judge k time (placed_cpu p) c e ≡ judge k time p c e
  unfolding judge
  judged_is c e = refl

  looked_at_is : (s : Scan) (e : Entry) (v : Visit) → visited k time (placed_cpu p) h s e v ≡ plain.looked_at k time p h s e v
  unfolding visited plain.looked_at
  looked_at_is s e pass = refl
  looked_at_is s e gone = refl
  looked_at_is s e (blocked c) = refl
  looked_at_is s e (no_addr_space c) = refl
  looked_at_is s e (ready c) = refl

  passed : (s : Scan) (e : Entry) → plain.looked_at k time p h s e pass ≡ s
  unfolding plain.looked_at
  passed s e = refl

  step_is : (s : Scan) (e : Entry) → plain.scan_step k time p h s e ≡ scan_step k time (placed_cpu p) h s e
  unfolding plain.scan_step scan_step visit
  step_is s e =
      let c : Context = context_at s.contexts e.context_ref in
      flags (plain.is_over k time p h s) (plain.is_later k time p h s e) (plain.is_locked k time p h s e) s
      (plain.looked_at k time p h s e (judge k time p c e)) (visited k time (placed_cpu p) h s e) (judge k time (placed_cpu p) c e)
      (looked_at_is s e pass ∙ passed s e) (looked_at_is s e _ ∙ ap (plain.looked_at k time p h s e) (judged_is c e))

  pub scan_is : (cs : List Context) (q : List Entry) → plain.scan k time p h cs q ≡ scan k time (placed_cpu p) h cs (by_rank entry_before q)
  unfolding plain.scan scan
  scan_is cs q =
      fold_same (plain.scan_step k time p h) (scan_step k time (placed_cpu p) h) step_is (plain.scan_start k time p h cs) (by_rank entry_before q)
