-- Where the words of a block stand, and its size. Written by tools/records.py.
use Rattle.std.specs.Prelude.{ℕ}

abbrev pub present_place : ℕ
present_place = 0

abbrev pub current_ctxt_place : ℕ
current_ctxt_place = 1

abbrev pub sched_ctxt_place : ℕ
sched_ctxt_place = 2

abbrev pub idle_ctxt_place : ℕ
idle_ctxt_place = 3

abbrev pub schedule_time_place : ℕ
schedule_time_place = 4

abbrev pub pit_ticks_place : ℕ
pit_ticks_place = 5

abbrev pub being_sigkilled_place : ℕ
being_sigkilled_place = 6

abbrev pub inside_syscall_place : ℕ
inside_syscall_place = 7

abbrev pub stealable_place : ℕ
stealable_place = 8

abbrev pub queue_len_place : ℕ
queue_len_place = 9

abbrev pub published_weight_place : ℕ
published_weight_place = 10

abbrev pub steal_counter_place : ℕ
steal_counter_place = 11

abbrev pub state_place : ℕ
state_place = 12

abbrev pub user_place : ℕ
user_place = 13

abbrev pub kernel_place : ℕ
kernel_place = 14

abbrev pub idle_place : ℕ
idle_place = 15

abbrev pub context_switches_place : ℕ
context_switches_place = 16

abbrev pub syscall_switches_place : ℕ
syscall_switches_place = 17

abbrev pub queue_locked_place : ℕ
queue_locked_place = 18

abbrev pub v_place : ℕ
v_place = 19

abbrev pub total_weight_place : ℕ
total_weight_place = 20

abbrev pub queue_count : ℕ
queue_count = 21

abbrev pub timers_count : ℕ
timers_count = 22

abbrev pub local_count : ℕ
local_count = 23

abbrev pub ipi_count : ℕ
ipi_count = 24

abbrev pub scalars_size : ℕ
scalars_size = 21

abbrev pub front_size : ℕ
front_size = 25

abbrev pub key_vd_column : ℕ
key_vd_column = 25

abbrev pub key_rem_slice_column : ℕ
key_rem_slice_column = 89

abbrev pub key_ctxt_id_column : ℕ
key_ctxt_id_column = 153

abbrev pub entry_vtime_column : ℕ
entry_vtime_column = 217

abbrev pub entry_weight_column : ℕ
entry_weight_column = 281

abbrev pub entry_context_ref_column : ℕ
entry_context_ref_column = 345

abbrev pub timer_wake_column : ℕ
timer_wake_column = 409

abbrev pub timer_context_ref_column : ℕ
timer_context_ref_column = 473

abbrev pub local_wakeup_list_column : ℕ
local_wakeup_list_column = 537

abbrev pub ipi_context_wakeup_list_column : ℕ
ipi_context_wakeup_list_column = 601

abbrev pub columns_end : ℕ
columns_end = 665

abbrev pub remainder_place : ℕ
remainder_place = 665

abbrev pub block_size : ℕ
block_size = 666
