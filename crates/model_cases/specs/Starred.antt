-- Document 01's worked example, and its starred cases as one table with one theorem. Assumes nothing.
use Rattle.std.specs.Prelude.{◌≡◌, refl, false, List, [], ◌∷◌, map, ℕ, length, replicate}
use Rattle.columns.specs.Common.{mark}
use Rattle.context.specs.declared.Context.{Context}
use Rattle.context.specs.Words.{context_of}
use Rattle.ticks.specs.declared.Spent.{Spent}
use Rattle.ticks.specs.Ticks.{ticks}
use Rattle.weights.specs.Weights.{whole_slice}
use Rattle.entries.specs.declared.Entry.{Entry}
use Rattle.charging.specs.Charge.{charged}
use Rattle.percpu.specs.Cpu.{Cpu}
use Rattle.percpu.specs.With.{cpu_queue, cpu_queue_len, cpu_sched_ctxt}
use Rattle.percpu.specs.Words.{block_of}
use Rattle.machine.specs.Machine.{Machine, cpu_at}
use Rattle.machine.specs.Encode.{encode, decode}
use Rattle.model.specs.State.{State}
use Rattle.model.specs.Steal.{can_steal_from, want}
use Rattle.model.specs.Schedule.{Outcome, switch}
use Rattle.model.specs.Opened.{opened}
use Rattle.entries.specs.Order.{is_due}

-- the idle context, running and in charge; and one of priority 20 with a full slice, queued
unfoldable pub idler : Context
idler =
    context_of
    (0 ∷ 0 ∷ 0 ∷ 1 ∷ 1 ∷ 1 ∷ 0 ∷ 0 ∷ 0 ∷ 0 ∷ 1 ∷ 0 ∷ 0 ∷ 0 ∷ 0 ∷ 0 ∷ 20 ∷ 0 ∷ 0 ∷ 0 ∷ 0 ∷ 0 ∷ 0 ∷ 0 ∷ 0 ∷ 0 ∷ [])

unfoldable pub worker : Context
worker =
    context_of
    (0 ∷ 1 ∷ 0 ∷ 0 ∷ 0 ∷ 0 ∷ 0 ∷ 0 ∷ 0 ∷ 0 ∷ 1 ∷ 0 ∷ 0 ∷ 0 ∷ 1 ∷ 0 ∷ 20 ∷ 0 ∷ 9437184 ∷ 9663676416 ∷ 1 ∷ 1 ∷ 9437184 ∷ 9663676416 ∷ 0 ∷ 0 ∷ [])

abbrev pub queued : Entry
queued =
    record {
      key = record { vd = 9437184; rem_slice = 9663676416; ctxt_id = 1 };
      vtime = 0;
      weight = 1024;
      context_ref = 1;
    }

unfoldable pub start : Cpu
start =
    record {
      block = block_of (1 ∷ 0 ∷ 0 ∷ 0 ∷ 0 ∷ 0 ∷ 0 ∷ 0 ∷ 1 ∷ 1 ∷ 1024 ∷ 1 ∷ 0 ∷ 0 ∷ 0 ∷ 0 ∷ 0 ∷ 0 ∷ 0 ∷ 0 ∷ 1024 ∷ []);
      queue = queued ∷ [];
      timers = [];
      local_wakeup_list = [];
      ipi_context_wakeup_list = [];
      remainder = 0;
    }

unfoldable pub worked : Machine
worked = record { contexts = idler ∷ worker ∷ []; cpus = start ∷ [] }

-- what `decide` prints: refusal, result, in charge, current, V
abbrev line : Outcome → List ℕ
line o =
    let p = cpu_at o.machine 0 in
    mark o.no_room ∷ o.result ∷ p.block.sched_ctxt ∷ p.block.current_ctxt ∷ p.block.v ∷ []

pub worked_example : line (switch 0 2250000 worked) ≡ 0 ∷ 1 ∷ 1 ∷ 1 ∷ 1048576 ∷ []
unfolding opened idler worker start worked
worked_example = refl

pub worked_image : (length (encode worked) ≡ 720) × (decode (encode worked) ≡ worked)
unfolding opened idler worker start worked
worked_image = (refl, refl)

-- what the definitions give, and what document 01 says
pub record Case : Type 0 where
  pub given : ℕ
  pub said : ℕ

abbrev case : ℕ → ℕ → Case
case a b = record { given = a; said = b }

-- a CPU with an empty queue, context x in charge; and a victim with n entries
abbrev robber : ℕ → State
robber x = record { contexts = idler ∷ worker ∷ []; cpu = cpu_queue [] (cpu_sched_ctxt x start); no_room = false }

abbrev victim : ℕ → Cpu
victim n = cpu_queue (replicate n queued) (cpu_queue_len n start)

-- a turn of so many ns, with nothing carried
abbrev turn : ℕ → Spent
turn n = record { elapsed = n; ticks = ticks n 0 }

unfoldable pub starred_cases : List Case
starred_cases =
    -- ticks
    case (ticks 1 0) 477 ∷ case (ticks 2250000 0) 1073741824 ∷ case (ticks 0 0) 0 ∷
    -- whole slices
    case (whole_slice 0) 108873 ∷ case (whole_slice 20) 9437184 ∷ case (whole_slice 39) 644245094 ∷
    -- the charge, and the yield
    case (charged 0 (turn 3375000) worker).vtime 1572864 ∷ case (charged 0 (turn 3375000) worker).rem_slice 8053063680 ∷
    case (charged 0 (turn 3374999) worker).vtime 9437183 ∷ case (charged 0 (turn 3374999) worker).vd 18874367 ∷
    case (charged 0 (turn 3374999) worker).rem_slice 9663676416 ∷
    -- due at 1000
    case (mark (is_due 1000 (record { wake = 1000; context_ref = 0 }))) 1 ∷
    case (mark (is_due 1000 (record { wake = 1001; context_ref = 0 }))) 1 ∷
    case (mark (is_due 1000 (record { wake = 1002; context_ref = 0 }))) 0 ∷
    -- idle robs length 1, not 0; a runnable holder needs 2
    case (mark (can_steal_from (robber 0) (victim 1))) 1 ∷ case (mark (can_steal_from (robber 0) (victim 0))) 0 ∷
    case (mark (can_steal_from (robber 1) (victim 2))) 1 ∷ case (mark (can_steal_from (robber 1) (victim 1))) 0 ∷
    -- how many are asked for
    case (want (robber 0) (victim 2)) 1 ∷ case (want (robber 0) (victim 3)) 1 ∷ case (want (robber 0) (victim 4)) 2 ∷ []

pub starred : map (λ (c : Case). c.given) starred_cases ≡ map (λ (c : Case). c.said) starred_cases
unfolding opened idler worker start starred_cases
starred = refl
