-- A context's key in a run queue, and its entry there. Assumes nothing.
use Rattle.std.specs.Prelude.{true, false, ℕ}
use Rattle.context.specs.declared.Context.{Context}
use Rattle.context.specs.With.{with_has_queue_key, with_queue_key_vd, with_queue_key_rem_slice}
use Rattle.entries.specs.declared.Key.{Key}
use Rattle.entries.specs.declared.Entry.{Entry}

-- a context's key, as its record has it; and as its deadline and slice give it
abbrev pub queue_key : Context → Key
queue_key c = record { vd = c.queue_key_vd; rem_slice = c.queue_key_rem_slice; ctxt_id = c.debug_id }

abbrev pub new_key : Context → Key
new_key c = record { vd = c.vd; rem_slice = c.rem_slice; ctxt_id = c.debug_id }

abbrev pub without_key : Context → Context
without_key c = with_has_queue_key false (with_queue_key_vd 0 (with_queue_key_rem_slice 0 c))

abbrev pub with_new_key : Context → Context
with_new_key c = with_has_queue_key true (with_queue_key_vd c.vd (with_queue_key_rem_slice c.rem_slice c))

-- the entry of a record with its own key
abbrev pub entry_of : ℕ → ℕ → Context → Entry
entry_of x weight c = record { key = new_key c; vtime = c.vtime; weight = weight; context_ref = x }
