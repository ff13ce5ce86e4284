-- The sums that a move makes: none overflows, of the first entry and of the second. Assumes nothing.
use Rattle.std.specs.Prelude.{if◌then◌else◌, Option}
use mathlib.Core.Path.{◌≡◌, refl, sym, subst}
use mathlib.Core.Bool.{Bool, false}
use mathlib.Core.List.{List}
use mathlib.Core.Logic.{◌≢◌}
use Prim.Native.Nat.{ℕ, ◌+◌, ◌-◌, ◌<◌, ◌≤◌}
use native.Mathlib.Omega.{arith}
use lib.ListN.{get_or, set, length-set}
use lib.Seq.{get_or-set_same}
use Rattle.columns.proofs.Tests.{by_test}
use Rattle.context.specs.declared.Context.{Context}
use Rattle.entries.specs.declared.Entry.{Entry}
use Rattle.percpu.specs.declared.PercpuBlock.{PercpuBlock}
use Rattle.percpu.specs.Cpu.{Cpu}
use Rattle.machine.specs.Machine.{cpu_at, context_at, no_cpu, no_context}
use Rattle.machine.specs.Encode.{cpu_place}
use Rattle.machine.specs.Shape.{ContextFits, EntryFits}
use Rattle.machine.proofs.Steps.{get_d_set}
use Rattle.model.specs.State.{State, on_cpu, at}
use Rattle.model.specs.Steal.{Moving, moved, first_wins, move_entry}
use Rattle.stages.specs.Stage.{Staged, Ranged}
use Rattle.steal.specs.Moves.{moving_of, put_moving, MovesAt, Moves, Movable}
use Rattle.steal.proofs.Blocks.{weight_of}
use Rattle.steal.proofs.Victims.{state_kept}
use Rattle.numbers.specs.Limits.{max_word}
use Rattle.weights.specs.Weights.{full_slice}
use Rattle.stages.specs.Bounds.{t_timed, b_charged, b_moving}
use Rattle.context.specs.Key.{with_new_key}

-- the sums of a stolen record
pub movable_sum : {c n k : ℕ} {m : List ℕ} (a : Movable c n k m) (b : PercpuBlock) (q : Context) (x : ℕ) → x < n → b ≡ (cpu_at a.M k).block → q ≡ context_at a.M.contexts x
    → (b.v + q.vtime ≤ (max_word - full_slice)) × (q.rem_slice ≤ full_slice)
movable_sum {c} {k = k} a b q x h e z =
    let u : b.v ≤ b_charged = subst (λ (y : PercpuBlock). y.v ≤ b_charged) (sym e) a.v in
    let i : q.vtime ≤ b_moving = subst (λ (y : Context). y.vtime ≤ b_moving) (sym z) (a.vtime x h) in
    let j : ContextFits c q = subst (ContextFits c) (sym z) (a.fits.context x h) in
    (omega arith, j.rem_slice)

-- this CPU's total weight after the victim has changed
pub weight_small : {c n k t : ℕ} {m m1 : List ℕ} (G : Cpu → Cpu) → k < c → t ≢ k → Movable c n k m → Staged c n t m m1 false (λ (s : State). on_cpu G s)
    → get_or m1 (cpu_place n k + 20) 0 ≤ b_moving
weight_small {k = k} {t = t} {m1 = m1} G h d a s =
    let p = s.stage a.M a.eq a.fits in
    rw (weight_of m1 k h _ (p.after refl) (p.fits refl))
    (subst (λ (y : State). y.cpu.block.total_weight ≤ b_moving) (sym (state_kept k t a.M (G (cpu_at a.M t)) (λ z. d (sym z)))) a.total_weight)

-- the sums of the first move, and of the second
pub movable_first : {c n k : ℕ} {m : List ℕ} → k < c → Ranged c n t_timed b_charged m → Movable c n k m
movable_first {k = k} h a =
    record {
      M = a.M;
      eq = a.eq;
      fits = a.fits;
      v = (a.below.cpu k h).v;
      total_weight = omega (arith, (a.below.cpu k h).total_weight);
      vtime = λ x l. omega (arith, (a.below.context x l).vtime);
    }

module _ (runs : Bool) (v : Moving) (e : Entry) where
  moved_v : (move_entry runs v e).state.cpu.block.v ≡ v.state.cpu.block.v
  unfolding move_entry
  moved_v = by_test (first_wins runs v.winner) (λ f. rw f) (λ f. rw f)

  moved_weight : (move_entry runs v e).state.cpu.block.total_weight ≡ v.state.cpu.block.total_weight + e.weight
  unfolding move_entry
  moved_weight = by_test (first_wins runs v.winner) (λ f. rw f) (λ f. rw f)

  abbrev its_record : Context
  its_record = moved v.state.cpu.block.v v.victim.block.v e.weight (at v.state e.context_ref)

  moved_contexts : (move_entry runs v e).state.contexts ≡ set v.state.contexts e.context_ref (if first_wins runs v.winner then its_record else with_new_key its_record)
  unfolding move_entry
  moved_contexts = by_test (first_wins runs v.winner) (λ f. rw f) (λ f. rw f)

  its_vtime : (if first_wins runs v.winner then its_record else with_new_key its_record).vtime ≡ v.state.cpu.block.v + (at v.state e.context_ref).vtime - v.victim.block.v
  its_vtime = by_test (first_wins runs v.winner) (λ f. rw f) (λ f. rw f)

pub movable_second : {c n k t : ℕ} {m m1 : List ℕ} {full : Bool} {w w1 : Option ℕ} (runs : Bool) (e : Entry) → k < c → t < c → Ranged c n t_timed b_charged m → EntryFits n e → full ≡ false
    → Moves c n k t m m1 full w w1 (λ (v : Moving). move_entry runs v e) → Movable c n k m1
unfolding cpu_at
movable_second {c = c} {n = n} {k = k} {t = t} {m1 = m1} {full = full} {w = w} {w1 = w1} runs e h g a f z s =
    record {
      M = put_moving k t v a.M;
      eq = p.after z;
      fits = p.fits z;
      v = subst (λ (y : Cpu). y.block.v ≤ b_charged) (sym this) (rw (moved_v runs u e) (a.below.cpu k h).v);
      total_weight = subst (λ (y : Cpu). y.block.total_weight ≤ b_moving) (sym this) (rw (moved_weight runs u e) (omega (arith, (a.below.cpu k h).total_weight, f.light)));
      vtime = λ x l. subst (λ (y : List Context). (context_at y x).vtime ≤ b_moving) (sym (moved_contexts runs u e))
          (get_d_set a.M.contexts e.context_ref x _ no_context (λ (y : Context). y.vtime ≤ b_moving)
          (rw (its_vtime runs u e) (omega (arith, (a.below.cpu k h).v, (a.below.context e.context_ref f.name).vtime))) (omega (arith, (a.below.context x l).vtime)));
    }
  where
    u : Moving
    u = moving_of k t w a.M

    v : Moving
    v = move_entry runs u e

    p : MovesAt c n k t m1 full w1 v a.M
    p = s.moves a.M a.eq a.fits

    this : cpu_at (put_moving k t v a.M) k ≡ v.state.cpu
    this = get_or-set_same (set a.M.cpus t v.victim) k v.state.cpu no_cpu (rw (length-set a.M.cpus t v.victim) (omega (arith, a.fits.cpus)))
