-- The five numbers of a reply: refusal, result, in charge, current and V (document 02, No. 9). Assumes nothing.
use Rattle.std.specs.Prelude.{Bool, not, ◌&&◌, ℕ, ◌+◌, ◌≤◌, List, eqb, length, get_or, if◌then◌else◌}
use Rattle.percpu.specs.Places.{current_ctxt_place, sched_ctxt_place, v_place, block_size}
use Rattle.machine.specs.Encode.{cpu_place}
use Rattle.context_ops.specs.Reply.{Reply}
use Rattle.asked.specs.declared.Asked.{Asked}

abbrev pub asked : (refusal result in_charge current v : ℕ) → Asked
asked refusal result in_charge current v =
    record { refusal = refusal; result = result; in_charge = in_charge; current = current; v = v }

abbrev pub refused : ℕ → Asked
refused r = asked r 0 0 0 0

-- three words of the CPU's block; the image has n contexts
abbrev pub accepted : (n cpu result : ℕ) → List ℕ → Asked
accepted n cpu result m =
    asked 0 result (get_or m (cpu_place n cpu + sched_ctxt_place) 0) (get_or m (cpu_place n cpu + current_ctxt_place) 0)
    (get_or m (cpu_place n cpu + v_place) 0)

-- the block lies in the image
pub record BlockInside (n cpu : ℕ) (m : List ℕ) : Type 0 where
  pub contexts : n ≤ 64
  pub cpus : cpu ≤ 3
  pub inside : cpu_place n cpu + block_size ≤ length m

-- the five numbers of a reply y to a call on CPU cpu
unfoldable pub asked_of : (n cpu : ℕ) → Reply → Asked
asked_of n cpu y =
    if eqb y.answer.refusal 0 then accepted n cpu y.answer.result y.image else refused y.answer.refusal

-- in all five numbers
unfoldable pub same : Asked → Asked → Bool
same a b =
    eqb a.refusal b.refusal
    && (eqb a.result b.result && (eqb a.in_charge b.in_charge && (eqb a.current b.current && eqb a.v b.v)))

-- the switch's own refusal; then 13, if the reply that was given differs from what the switch gives now
unfoldable pub commit_refusal : (given now : Asked) → ℕ
commit_refusal given now = if not (eqb now.refusal 0) then now.refusal else if same given now then 0 else 13
