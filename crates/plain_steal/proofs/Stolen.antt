-- The stealing from its beginning to its end, in the code's words. Assumes nothing.
use Rattle.std.specs.Prelude.{Option}
use Rattle.std.proofs.Common.{◌≡◌, ℕ, ◌≤◌, Bool, true, false, List, [], ◌∷◌, length, take, sym, ap, ◌∙◌, subst, arith, length-take}
use lib.ListN.{length-map}
use Rattle.columns.specs.Common.{fold, All}
use Rattle.percpu.specs.Cpu as percpu
use Rattle.machine.specs.Machine.{context_at}
use Rattle.machine.specs.Shape.{EntryFits}
use Rattle.model.specs.State as model
use Rattle.model.specs.State.{on_cpu}
use Rattle.model.specs.Steal as model_steal
use Rattle.model.specs.Steal.{count_steal, should_steal}
use Rattle.plain_model.specs.State.{placed}
use Rattle.plain_model.specs.Steal.{targets, steal_from, steal}
use Rattle.plain_state.specs.declared.State.{State}
use Rattle.plain_state.specs.States.{cpu_in, state_in, Became}
use Rattle.plain_state.specs.Fits.{CpuFitsInAnyOrder, StateFits}
use Rattle.plain_moves.specs.Moves.{MovedBelow}
use Rattle.stages.specs.Stage.{StateBelow}
use Rattle.stages.specs.Bounds.{b_charged}
use Rattle.plain_steal.specs.declared.cpus.Cpus.{Cpus}
use Rattle.plain_steal.specs.declared.Stealing.{Stealing}
use Rattle.plain_steal.specs.Stealing.{cpus_in, CpusSound, CpusFit, stealing_in, StealingSound, StealingTracks, Robs}
use Rattle.plain_steal.proofs.Robbed.{steals_as, steals_itself}

module _ (k : ℕ) (runs : Bool) (locked : List ℕ) where
  module _ (n c : ℕ) (s : State) (cpus : Cpus) (w : Option ℕ) {t : State} (o : CpusSound c cpus) (b : Became n t (on_cpu count_steal (state_in n s))) where
    abbrev start : Stealing
    start = record { state = t; cpus = cpus; winner = w; done = false }

    pub start_sound : StealingSound n c start
    start_sound = record { state = b.sound; cpus = o }

    pub start_robs : StateFits n (state_in n s) → CpusFit n (cpus_in c cpus) → {u : ℕ} → StateBelow n u b_charged (placed (state_in n s)) → Robs n (stealing_in n c start)
    start_robs f g a =
        record {
          below =
              subst (MovedBelow n 0) (sym b.is)
              (record {
                v = a.cpu.v;
                total_weight = let x : s.cpu.block.total_weight ≤ b_charged = a.cpu.total_weight in omega arith;
                vtime = λ x l. let y : (context_at (state_in n s).contexts x).vtime ≤ b_charged = (a.context x l).vtime in omega arith;
                slice = λ x l. (f.context x l).rem_slice;
              });
          entries = each (cpus_in c cpus) g;
        }
      where
        each : (ps : List percpu.Cpu) → All (CpuFitsInAnyOrder n) ps → All (λ (p : percpu.Cpu). All (EntryFits n) p.queue) ps
        each [] g = tt
        each (p ∷ ps) g = (g.0.entries, each ps g.1)

    pub start_room : s.no_room ≡ false → t.no_room ≡ false
    start_room h = ap (λ (x : model.State). x.no_room) b.is ∙ h

    many : length (cpus_in c cpus) ≡ c
    many = let x : length cpus.cpus ≡ 4 = o.places in let y : c ≤ 4 = o.few in rw (length-map (take c cpus.cpus) cpu_in, length-take c cpus.cpus) (omega arith)

    abbrev begun : model_steal.Stealing
    begun = record { state = on_cpu count_steal (state_in n s); cpus = cpus_in c cpus; winner = w; done = false }

    started : stealing_in n c start ≡ begun
    started = λ i. record { state = b.is i; cpus = cpus_in c cpus; winner = w; done = false }

    module _ {a : Bool} (ha : a ≡ should_steal (state_in n s) w) where
      pub stolen_all : {r : Stealing} → a ≡ true → StealingTracks n c r (fold (steal_from k runs locked) (stealing_in n c start) (targets k c))
          → StealingTracks n c r (steal k runs locked (cpus_in c cpus) w (state_in n s))
      unfolding steal
      stolen_all {r} t u =
          let z : should_steal (state_in n s) w ≡ true = sym ha ∙ t in
          rw (z, many) (steals_as (ap (λ (x : model_steal.Stealing). fold (steal_from k runs locked) x (targets k c)) started) u)

      pub not_stolen : a ≡ false → StealingTracks n c start (steal k runs locked (cpus_in c cpus) w (state_in n s))
      unfolding steal
      not_stolen t =
          let z : should_steal (state_in n s) w ≡ false = sym ha ∙ t in
          rw z (steals_as started (steals_itself n c start start_sound))
