-- The words of an image that a measurement looks at. Assumes nothing.
use Rattle.std.specs.Prelude.{List, ℕ, ◌+◌, ◌<◌, ◌≤◌, get_or}
use Rattle.percpu.specs.Places.{schedule_time_place, being_sigkilled_place, published_weight_place, steal_counter_place, user_place, queue_locked_place, v_place, queue_count, key_vd_column, key_rem_slice_column, entry_vtime_column, entry_weight_column, timer_wake_column, timer_context_ref_column}
use Rattle.machine.specs.Encode.{context_place, cpu_place}
use Rattle.growth.specs.declared.Bounds.{Bounds}
use Rattle.growth.specs.Growth.{AtMost}

-- no word from a place up to another is over top
pub record NoneOver (m : List ℕ) (from to top : ℕ) : Type 0 where
  pub each : (i : ℕ) → from ≤ i → i < to → get_or m i 0 ≤ top

-- r is no less than `most` and than every such word
pub record Greatest (m : List ℕ) (from to most r : ℕ) : Type 0 where
  pub more : most ≤ r
  pub all : NoneOver m from to r

-- the record that begins there: its times up to the affinity, the wake, and from the vtime to the key's deadline
pub record RecordWithin (m : List ℕ) (at : ℕ) (r : Bounds) : Type 0 where
  pub clock : NoneOver m (at + 6) (at + 10) r.times
  pub wake : NoneOver m (at + 13) (at + 14) r.times
  pub virtual_times : NoneOver m (at + 17) (at + 23) r.virtual_times

pub record RecordMeasured (m : List ℕ) (at : ℕ) (b r : Bounds) : Type 0 where
  pub more : AtMost b r
  pub within : RecordWithin m at r

-- the block that begins there
pub record TimesWithin (m : List ℕ) (at r : ℕ) : Type 0 where
  pub clock : NoneOver m (at + schedule_time_place) (at + being_sigkilled_place) r
  pub counted : NoneOver m (at + user_place) (at + queue_locked_place) r
  pub wake : NoneOver m (at + timer_wake_column) (at + timer_context_ref_column) r

pub record TimesMeasured (m : List ℕ) (at most r : ℕ) : Type 0 where
  pub more : most ≤ r
  pub within : TimesWithin m at r

pub record VirtualTimesWithin (m : List ℕ) (at r : ℕ) : Type 0 where
  pub published : NoneOver m (at + published_weight_place) (at + steal_counter_place) r
  pub v : NoneOver m (at + v_place) (at + queue_count) r
  pub vd : NoneOver m (at + key_vd_column) (at + key_rem_slice_column) r
  pub vtime : NoneOver m (at + entry_vtime_column) (at + entry_weight_column) r

pub record VirtualTimesMeasured (m : List ℕ) (at most r : ℕ) : Type 0 where
  pub more : most ≤ r
  pub within : VirtualTimesWithin m at r

pub record BlockWithin (m : List ℕ) (at : ℕ) (r : Bounds) : Type 0 where
  pub times : TimesWithin m at r.times
  pub virtual_times : VirtualTimesWithin m at r.virtual_times

-- all records, and all blocks
pub record RecordsMeasured (m : List ℕ) (n : ℕ) (r : Bounds) : Type 0 where
  pub within : (x : ℕ) → x < n → RecordWithin m (context_place x) r

pub record BlocksMeasured (m : List ℕ) (c n : ℕ) (b r : Bounds) : Type 0 where
  pub more : AtMost b r
  pub within : (k : ℕ) → k < c → BlockWithin m (cpu_place n k) r

pub record Measured (m : List ℕ) (c n : ℕ) (r : Bounds) : Type 0 where
  pub records : (x : ℕ) → x < n → RecordWithin m (context_place x) r
  pub blocks : (k : ℕ) → k < c → BlockWithin m (cpu_place n k) r
