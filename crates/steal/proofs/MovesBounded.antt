-- How far the moves of entries can make values grow. Assumes nothing.
use mathlib.Core.Bool.{Bool}
use mathlib.Core.List.{List, [], ◌∷◌}
use mathlib.Core.Logic.{◌≢◌}
use Prim.Native.Nat.{ℕ, ◌+◌, ◌*◌, ◌<◌, ◌≤◌}
use native.Mathlib.Omega.{arith}
use lib.ListN.{length, set}
use lib.Seq.{get_or-set_other}
use Rattle.columns.specs.Common.{fold, All}
use Rattle.columns.proofs.Tests.{by_test}
use Rattle.context.specs.declared.Context.{Context}
use Rattle.entries.specs.declared.Entry.{Entry}
use Rattle.percpu.specs.With.{cpu_total_weight}
use Rattle.machine.specs.Machine.{context_at, no_context}
use Rattle.machine.specs.Shape.{EntryFits}
use Rattle.machine.proofs.Steps.{get_d_set}
use Rattle.model.specs.Steal.{Moving, moved, first_wins, move_entry}
use Rattle.stages.specs.Stage.{ContextBelow, CpuBelow}
use Rattle.steal.proofs.Apart.{Apart}
use Rattle.steal.proofs.Below.{below_weight, below_inserted, below_given_up, below_moved, below_keyed}
use Rattle.weights.specs.Weights.{full_slice, max_weight}
use Rattle.stages.specs.Bounds.{slice_bound}
use Rattle.context.specs.Key.{with_new_key}

-- es: the entries that are still to be moved
pub record MovingBelow (n t b : ℕ) (v : Moving) (es : List Entry) : Type 0 where
  pub context : (x : ℕ) → x < n → ContextBelow t (2 * b + slice_bound) (context_at v.state.contexts x)
  pub slice : (x : ℕ) → x < n → (context_at v.state.contexts x).rem_slice ≤ full_slice
  pub cpu : CpuBelow t (2 * b + slice_bound) v.state.cpu
  pub v_here : v.state.cpu.block.v ≤ b
  pub weight : v.state.cpu.block.total_weight + max_weight * length es ≤ b + (64 * max_weight)
  pub victim : CpuBelow t b v.victim
  pub each : All (EntryFits n) es
  pub still : All (λ (e : Entry). (context_at v.state.contexts e.context_ref).vtime ≤ b) es
  pub apart : Apart es

-- what was set does not concern the entries of other contexts
still_others : (b : ℕ) (cs : List Context) (x : ℕ) (q : Context) (es : List Entry) → All (λ (f : Entry). f.context_ref ≢ x) es → All (λ (e : Entry). (context_at cs e.context_ref).vtime ≤ b) es
    → All (λ (e : Entry). (context_at (set cs x q) e.context_ref).vtime ≤ b) es
still_others b cs x q [] a h = tt
still_others b cs x q (e ∷ es) a h = (rw (get_or-set_other cs x e.context_ref q no_context a.0) h.0, still_others b cs x q es a.1 h.1)

module _ {n t : ℕ} (b : ℕ) (runs : Bool) (v : Moving) (e : Entry) (es : List Entry) (a : MovingBelow n t b v (e ∷ es)) where
  abbrev x : ℕ
  x = e.context_ref

  abbrev q : Context
  q = context_at v.state.contexts x

  abbrev r : Context
  r = moved v.state.cpu.block.v v.victim.block.v e.weight q

  f : EntryFits n e
  f = a.each.0

  r_below : ContextBelow t (2 * b + slice_bound) r
  r_below = below_moved b v.state.cpu.block.v v.victim.block.v e.weight q (a.context x f.name) a.v_here a.still.0 (a.slice x f.name) f.heavy

  heavier : CpuBelow t (2 * b + slice_bound) (cpu_total_weight (v.state.cpu.block.total_weight + e.weight) v.state.cpu)
  heavier = below_weight (v.state.cpu.block.total_weight + e.weight) v.state.cpu (omega (arith, a.weight, f.light)) a.cpu

  weight_left : v.state.cpu.block.total_weight + e.weight + max_weight * length es ≤ b + (64 * max_weight)
  weight_left = omega (arith, a.weight, f.light)

  pub move_below : MovingBelow n t b (move_entry runs v e) es
  unfolding move_entry
  move_below =
      by_test (first_wins runs v.winner)
      (λ z. rw z
      (record {
        context = λ y l. get_d_set v.state.contexts x y r no_context (ContextBelow t (2 * b + slice_bound)) r_below (a.context y l);
        slice = λ y l. get_d_set v.state.contexts x y r no_context (λ (i : Context). i.rem_slice ≤ full_slice) (a.slice x f.name) (a.slice y l);
        cpu = heavier;
        v_here = a.v_here;
        weight = weight_left;
        victim = below_given_up b e v.victim a.victim;
        each = a.each.1;
        still = still_others b v.state.contexts x r es a.apart.0 a.still.1;
        apart = a.apart.1;
      }))
      (λ z. rw z
      (record {
        context = λ y l. get_d_set v.state.contexts x y (with_new_key r) no_context (ContextBelow t (2 * b + slice_bound))
            (below_keyed b v.state.cpu.block.v v.victim.block.v e.weight q (a.context x f.name) a.v_here a.still.0 (a.slice x f.name) f.heavy) (a.context y l);
        slice = λ y l. get_d_set v.state.contexts x y (with_new_key r) no_context (λ (i : Context). i.rem_slice ≤ full_slice) (a.slice x f.name) (a.slice y l);
        cpu = below_inserted (2 * b + slice_bound) _ _ (cpu_total_weight (v.state.cpu.block.total_weight + e.weight) v.state.cpu) r_below.vtime r_below.vd heavier;
        v_here = a.v_here;
        weight = weight_left;
        victim = below_given_up b e v.victim a.victim;
        each = a.each.1;
        still = still_others b v.state.contexts x (with_new_key r) es a.apart.0 a.still.1;
        apart = a.apart.1;
      }))

pub moves_below : {n t : ℕ} (b : ℕ) (runs : Bool) (v : Moving) (es : List Entry) → MovingBelow n t b v es → MovingBelow n t b (fold (move_entry runs) v es) []
moves_below b runs v [] a = a
moves_below b runs v (e ∷ es) a = moves_below b runs (move_entry runs v e) es (move_below b runs v e es a)
