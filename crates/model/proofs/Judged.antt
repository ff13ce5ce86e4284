-- What judging an entry leaves of its context's record.
use mathlib.Core.Path.{◌≡◌, refl}
use mathlib.Core.Bool.{Bool, true, false, not, ◌&&◌, ◌||◌}
use Prim.Native.Nat.{ℕ}
use lib.Dec.{eqb}
use Rattle.context.specs.declared.Context.{Context}
use Rattle.context.specs.Status.{is_runnable}
use Rattle.context.specs.Block.{woken}
use Rattle.context.specs.With.{with_rem_slice, with_is_active}
use Rattle.cpu_set.specs.Set.{contains}
use Rattle.entries.specs.declared.Entry.{Entry}
use Rattle.runnable.specs.declared.UpdateResult.{UpdateResult}
use Rattle.runnable.specs.declared.UpdateResult.TheVariants.{CanSwitch, Skip, Blocked}
use Rattle.runnable.specs.Runnable.{update_runnable, wake_has_come}
use Rattle.percpu.specs.Cpu.{Cpu}
use Rattle.model.specs.Scan.{Visit, pass, gone, blocked, no_addr_space, ready, is_ready, by_update, judge}
use Rattle.model.proofs.Cases.{pick, never}
use Rattle.model.proofs.Queues.{run, fixed}
use Rattle.context.specs.Key.{without_key}

-- a record that can be switched to: c, woken if need be
pub record Switchable (c d : Context) : Type 0 where
  pub same_run : run d ≡ run c
  pub same_fixed : fixed d ≡ fixed c
  pub same_active : d.is_active ≡ c.is_active
  pub is_runnable : is_runnable d.status ≡ true

pub update_cases : (k time : ℕ) (a b : Bool) (c : Context) (P : UpdateResult → Type 0) → P Skip → (is_runnable c.status ≡ false → P Blocked)
    → ((d : Context) → Switchable c d → P (CanSwitch d)) → P (update_runnable k time a b c)
unfolding update_runnable
update_cases k time a b c P s l g =
    pick P (c.running && not b) (λ t. s)
    (λ t. pick P (c.currently_scheduled && not a) (λ t. s)
    (λ t. pick P (not (contains c.sched_affinity k)) (λ t. s)
    (λ t. pick P (wake_has_come time c) (λ t. g (woken c) (record { same_run = refl; same_fixed = refl; same_active = refl; is_runnable = refl }))
    (λ t. pick P (is_runnable c.status) (λ t. g c (record { same_run = refl; same_fixed = refl; same_active = refl; is_runnable = t })) (λ t. l t)))))

-- the record of a blocked entry's context
abbrev pub put_to_sleep : Context → Context
put_to_sleep c = without_key (with_is_active false (with_rem_slice 0 c))

pub judge_cases : (k time : ℕ) (p : Cpu) (c : Context) (e : Entry) (P : Visit → Type 0) → P pass → (c.gone ≡ true → P gone)
    → (c.gone ≡ false → is_runnable c.status ≡ false → P (blocked (put_to_sleep c))) → ((d : Context) → Switchable c d → P (no_addr_space d))
    → ((d : Context) → Switchable c d → P (ready d)) → P (judge k time p c e)
unfolding judge
judge_cases k time p c e P ps gn sl ns rd =
    pick P c.gone (λ t. gn t)
    (λ l. pick P (eqb e.context_ref p.block.idle_ctxt || eqb e.context_ref p.block.sched_ctxt) (λ t. ps)
    (λ t. pick P (not (eqb c.lock 0)) (λ t. ps)
    (λ t. update_cases k time false (eqb e.context_ref p.block.current_ctxt) c (λ u. P (by_update c u)) ps (λ r. sl l r)
    (λ d s. pick P (eqb c.addr_space 2) (λ t. ns d s) (λ t. rd d s)))))

pub ready_alive : (k time : ℕ) (p : Cpu) (c : Context) (e : Entry) → is_ready (judge k time p c e) ≡ true → c.gone ≡ false
unfolding judge
ready_alive k time p c e = pick (λ v. is_ready v ≡ true → c.gone ≡ false) c.gone (λ t u. never {b = false} u refl) (λ t u. t)
