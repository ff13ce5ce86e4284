-- Who is active and what entries weigh before the call.
use mathlib.Core.Path.{◌≡◌, refl}
use mathlib.Core.Logic.{◌⊎◌, inl, inr}
use Prim.Native.Nat.{ℕ}
use Rattle.machine.specs.Machine.{Machine, cpu_at}
use Rattle.model.specs.Tidy.{Sound, Present, InCharge}
use Rattle.model.proofs.Queues.{Has}
use Rattle.model.proofs.Before.{queues, Free, is_queued}
use Rattle.model_weights.specs.Weighed.{Weighed, MayBeActive, queued, runs, stopped}
use Rattle.model_weights.proofs.Weighing.{Alive, Weights}

module _ (M : Machine) where
  -- in charge or idle; in charge
  abbrev pub Placed : ℕ → Type 0
  Placed x = (j : ℕ) × Present M j × ((x ≡ (cpu_at M j).block.sched_ctxt) ⊎ (x ≡ (cpu_at M j).block.idle_ctxt))

  abbrev pub Charged : ℕ → Type 0
  Charged x = (j : ℕ) × InCharge M x j

  pub not_free : (x : ℕ) → Free M x → Placed x → ⊥
  not_free x f (j, p, inl z) = f.not_in_charge j p z
  not_free x f (j, p, inr z) = f.not_idle j p z

  pub start_weights : Sound M → Weighed M → Weights M.contexts Placed Charged M.contexts (queues M)
  start_weights S W =
      record {
        weighs = λ e i h l. W.entry_weight e i (is_queued M S e i h) l;
        active = λ e i h l. W.queued_active e i (is_queued M S e i h) l;
        only = λ x r a. go x (W.nobody_else x r a);
        still = λ x w. refl;
      }
    where
      go : (x : ℕ) → MayBeActive M x → (Alive M.contexts x × Has x (queues M)) ⊎ Charged x
      go x (queued e i q z l) = inl (l, (e, i, q.is_in, z))
      go x (runs i c r n) = inr (i, c)
      go x (stopped i c r) = inr (i, c)
