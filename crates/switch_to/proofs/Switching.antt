-- `switch_to` in the code's words. Assumes nothing.
use Rattle.std.specs.Prelude.{if◌then◌else◌}
use mathlib.Core.Path.{◌≡◌, refl, sym, ap, ◌∙◌, subst}
use mathlib.Core.Bool.{Bool, true, false, not, ◌&&◌}
use Prim.Native.Nat.{ℕ, ◌+◌, ◌-◌, ◌<◌, ◌≤◌}
use native.Mathlib.Omega.{arith}
use mathlib.Core.List.{List}
use Rattle.columns.proofs.Tests.{by_test}
use Rattle.context.specs.declared.Context.{Context}
use Rattle.percpu.specs.declared.PercpuBlock.{PercpuBlock}
use Rattle.percpu.specs.Cpu.{Cpu}
use Rattle.percpu.specs.With.{cpu_block}
use Rattle.machine.specs.Machine.{Machine, context_at, cpu_at}
use Rattle.machine.specs.Encode.{encode}
use Rattle.machine.specs.Shape.{Fits, Image}
use Rattle.model.specs.State.{State, at, state_of, put_context, on_cpu, push_local}
use Rattle.model.specs.SwitchTo.{comes, switch_to}
use Rattle.stages.specs.Stage.{Staged, Ranged}
use Rattle.stages.proofs.Compose.{stage_then, stage_full, stage_as}
use Rattle.stages.proofs.Reading.{unchanged}
use Rattle.switch_to.specs.Switched.{is_lost, saved_by, left_by, current_by, entered, switched_by}
use Rattle.stages.specs.Bounds.{t_handed}

module _ {c n k : ℕ} {m m' : List ℕ} (y : ℕ) (b : PercpuBlock) (q : Context) where
  pub saved_lost : {r l : Bool} → l ≡ is_lost b q → l ≡ true → Staged c n k m m' r (λ (s : State). push_local y s) → Staged c n k m m' r (λ (s : State). saved_by y b q s)
  saved_lost e f t = stage_as t (λ M z o. (rw (sym e ∙ f), λ a d. refl))

pub saved_not : {c n k : ℕ} {m : List ℕ} (y : ℕ) (b : PercpuBlock) (q : Context) {l : Bool} → l ≡ is_lost b q → l ≡ false → Image c n m → Staged c n k m m false (λ (s : State). saved_by y b q s)
saved_not {k = k} y b q e f i = unchanged k (λ (s : State). saved_by y b q s) i (λ M z o. rw (sym e ∙ f))

-- x comes, where b is the block
pub entered_as : {c n k : ℕ} {m m' m'' : List ℕ} (time x : ℕ) (b : PercpuBlock) (q : Context) {b' : PercpuBlock} {q' : Context} → k < c
    → ((M : Machine) → m ≡ encode M → Fits c n M → q ≡ context_at M.contexts x) → q' ≡ comes k time q → b' ≡ current_by x q' b
    → Staged c n k m m' false (λ (s : State). put_context x q' s) → Staged c n k m' m'' false (λ (s : State). on_cpu (λ (p : Cpu). cpu_block b' p) s)
    → Staged c n k m m'' false (λ (s : State). entered k time x b s)
unfolding entered
entered_as time x b q h hq e f t u = stage_as (stage_then h t u) (λ M z o. (rw (f, e, hq M z o), λ a d. refl))

-- from y, whose record is q, to x
module _ {c n k : ℕ} {m m' : List ℕ} (time x y : ℕ) (b : PercpuBlock) (q : Context) where
  pub switched_full : {r : Bool} → r ≡ true → Staged c n k m m' r (λ (s : State). saved_by y b q s) → Staged c n k m m' true (λ (s : State). switched_by k time x y b q s)
  unfolding switched_by entered
  switched_full e t =
      stage_full (λ (s : State). entered k time x b (put_context y (left_by time b q) s)) (λ (s : State). 0) (subst (λ (r : Bool). Staged c n k m m' r (λ (s : State). saved_by y b q s)) e t) (λ s z. z)

  pub switched_room : {m'' m''' : List ℕ} {r : Bool} {q' : Context} → r ≡ false → k < c → q' ≡ left_by time b q → Staged c n k m m' r (λ (s : State). saved_by y b q s)
      → Staged c n k m' m'' false (λ (s : State). put_context y q' s) → Staged c n k m'' m''' false (λ (s : State). entered k time x b s)
      → Staged c n k m m''' false (λ (s : State). switched_by k time x y b q s)
  unfolding switched_by
  switched_room e h f t u w =
      stage_as (stage_then h (stage_then h (subst (λ (r : Bool). Staged c n k m m' r (λ (s : State). saved_by y b q s)) e t) u) w) (λ M z o. (rw f, λ a d. refl))

-- the definition, by what it reads
pub at_values : (k time x : ℕ) (s : State) → switched_by k time x s.cpu.block.current_ctxt s.cpu.block (at s s.cpu.block.current_ctxt) s ≡ switch_to k time x s
unfolding switched_by entered switch_to
at_values k time x s = by_test (is_lost s.cpu.block (at s s.cpu.block.current_ctxt)) (λ t. rw t) (λ t. rw t)

module _ {c n : ℕ} {m : List ℕ} (k : ℕ) (b : PercpuBlock) (hb : (M : Machine) → m ≡ encode M → Fits c n M → b ≡ (cpu_at M k).block) (y : ℕ) (hy : y ≡ b.current_ctxt) where
  pub current_named : Image c n m → k < c → y < n
  current_named i h = let e = hb i.M i.eq i.fits in rw (hy, e) (i.fits.cpu k h).current

  module _ (q : Context) (hq : (M : Machine) → m ≡ encode M → Fits c n M → q ≡ context_at M.contexts y) where
    pub time_below : {u : ℕ} → Ranged c n t_handed u m → y < n → q.active_cpu_time ≤ t_handed
    time_below r l = rw (hq r.M r.eq r.fits) (r.below.context y l).active_cpu_time

    pub switched_as : (time x : ℕ) {m' : List ℕ} {r : Bool} → Staged c n k m m' r (λ (s : State). switched_by k time x y b q s) → Staged c n k m m' r (λ (s : State). switch_to k time x s)
    switched_as time x t = stage_as t (λ M z o. (rw (hq M z o, hy, hb M z o) (at_values k time x (state_of k M)), λ a d. refl))
