-- A wake-up by value, and what the definitions of the decision say of it. Assumes nothing.
use Rattle.std.specs.Prelude.{Bool, not, ◌&&◌, ◌||◌, ℕ, ◌+◌, ◌<◌, ◌≤◌, eqb, if◌then◌else◌}
use Rattle.context.specs.declared.Context.{Context}
use Rattle.context.specs.Status.{is_runnable}
use Rattle.weights.specs.Weights.{weight}
use Rattle.entries.specs.declared.Timer.{Timer}
use Rattle.percpu.specs.declared.PercpuBlock.{PercpuBlock}
use Rattle.percpu.specs.With.{block_total_weight, block_published_weight}
use Rattle.model.specs.Wakeup as definition
use Rattle.wakeup_judge.specs.declared.Wakeup.{Wakeup}
use Rattle.wakeup_judge.specs.declared.WakeupResult.{WakeupResult}
use Rattle.wakeup_judge.specs.declared.WakeupResult.TheVariants.{Dropped, Locked, WokenOnly, Entered}
use Rattle.numbers.specs.Limits.{max_number}

-- the definition's wake-up, and its result
abbrev pub wakeup_of : Wakeup → definition.Wakeup
wakeup_of w = record { wake = w.wake; context_ref = w.context_ref }

abbrev pub result_of : WakeupResult → definition.WakeupResult
result_of Dropped = definition.dropped
result_of Locked = definition.locked
result_of (WokenOnly c) = definition.woken_only c
result_of (Entered c) = definition.entered c

-- `is_live_timer`, of the holder's name and of the context's record
abbrev pub live_at : ℕ → Timer → Context → Bool
live_at sched t c =
    (not c.gone && not (eqb c.lock 2) && not (eqb t.context_ref sched)) && definition.waits_for t.wake c

-- `is_unreadable`, of the holder's name and of the context's record
abbrev pub unreadable_at : ℕ → Timer → Context → Bool
unreadable_at sched t c = not c.gone && (eqb c.lock 2 || eqb t.context_ref sched)

-- `may_enter`, of the two names that it reads
abbrev pub may_enter_at : (current sched x : ℕ) → Context → Bool
may_enter_at current sched x c =
    is_runnable c.status && not c.currently_scheduled && c.userspace
    && (not c.running || eqb x current && not (eqb x sched))

-- `wakeup_result`, of the two names and of the context's record
unfoldable pub judged : (current sched : ℕ) → Wakeup → Context → WakeupResult
judged current sched w c =
    let q = definition.woken_by w.wake c in
    if eqb w.context_ref sched then Dropped else
    if c.gone then Dropped else
    if not (eqb c.lock 0) then Locked else
    if may_enter_at current sched w.context_ref q then Entered q else WokenOnly q

-- `activated`, of a block's scalars
abbrev pub activated_block : Context → PercpuBlock → PercpuBlock
activated_block c b =
    let n = b.total_weight + weight c.prio in
    block_total_weight (if c.is_active then b.total_weight else n)
    (block_published_weight (if c.is_active then b.published_weight else n) b)

-- a record that may enter at V without a sum past a word
pub record Enterable (v : ℕ) (c : Context) : Type 0 where
  pub prio : c.prio < 40
  pub vtime : c.vtime ≤ max_number
  pub least : v ≤ max_number
