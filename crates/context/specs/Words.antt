-- The 26 words of a context's record, and the record of the words. Written by tools/records.py.
use Rattle.std.specs.Prelude.{ℕ, Bool, true, false, ◌≡◌, refl, List, [], ◌∷◌, ◌++◌, eqb, length, get_or}
use Rattle.context.specs.declared.Context.{Context}
use Rattle.context.specs.Status.{status_number, status_of, status_back}
use Rattle.columns.specs.Common.{mark, mark_back}

abbrev pub record_size : ℕ
record_size = 26

unfoldable pub context_words : Context → List ℕ
context_words c =
    mark c.gone ∷
    c.debug_id ∷
    status_number c.status ∷
    mark c.running ∷
    mark c.currently_scheduled ∷
    c.cpu_id ∷
    c.schedule_time ∷
    c.switch_time ∷
    c.active_cpu_time ∷
    c.sched_cpu_time ∷
    c.sched_affinity ∷
    mark c.inside_syscall ∷
    mark c.has_wake ∷
    c.wake ∷
    mark c.userspace ∷
    mark c.being_sigkilled ∷
    c.prio ∷
    c.vtime ∷
    c.vd ∷
    c.rem_slice ∷
    mark c.is_active ∷
    mark c.has_queue_key ∷
    c.queue_key_vd ∷
    c.queue_key_rem_slice ∷
    c.lock ∷
    c.addr_space ∷ []

unfoldable pub context_of : List ℕ → Context
context_of w =
    record {
      gone = eqb (get_or w 0 0) 1;
      debug_id = get_or w 1 0;
      status = status_of (get_or w 2 0);
      running = eqb (get_or w 3 0) 1;
      currently_scheduled = eqb (get_or w 4 0) 1;
      cpu_id = get_or w 5 0;
      schedule_time = get_or w 6 0;
      switch_time = get_or w 7 0;
      active_cpu_time = get_or w 8 0;
      sched_cpu_time = get_or w 9 0;
      sched_affinity = get_or w 10 0;
      inside_syscall = eqb (get_or w 11 0) 1;
      has_wake = eqb (get_or w 12 0) 1;
      wake = get_or w 13 0;
      userspace = eqb (get_or w 14 0) 1;
      being_sigkilled = eqb (get_or w 15 0) 1;
      prio = get_or w 16 0;
      vtime = get_or w 17 0;
      vd = get_or w 18 0;
      rem_slice = get_or w 19 0;
      is_active = eqb (get_or w 20 0) 1;
      has_queue_key = eqb (get_or w 21 0) 1;
      queue_key_vd = get_or w 22 0;
      queue_key_rem_slice = get_or w 23 0;
      lock = get_or w 24 0;
      addr_space = get_or w 25 0;
    }

pub context_of_words : (c : Context) → context_of (context_words c) ≡ c
unfolding context_words context_of
context_of_words c = λ j.
    record {
      gone = mark_back c.gone j;
      debug_id = c.debug_id;
      status = status_back c.status j;
      running = mark_back c.running j;
      currently_scheduled = mark_back c.currently_scheduled j;
      cpu_id = c.cpu_id;
      schedule_time = c.schedule_time;
      switch_time = c.switch_time;
      active_cpu_time = c.active_cpu_time;
      sched_cpu_time = c.sched_cpu_time;
      sched_affinity = c.sched_affinity;
      inside_syscall = mark_back c.inside_syscall j;
      has_wake = mark_back c.has_wake j;
      wake = c.wake;
      userspace = mark_back c.userspace j;
      being_sigkilled = mark_back c.being_sigkilled j;
      prio = c.prio;
      vtime = c.vtime;
      vd = c.vd;
      rem_slice = c.rem_slice;
      is_active = mark_back c.is_active j;
      has_queue_key = mark_back c.has_queue_key j;
      queue_key_vd = c.queue_key_vd;
      queue_key_rem_slice = c.queue_key_rem_slice;
      lock = c.lock;
      addr_space = c.addr_space;
    }

pub length_context_words : (c : Context) → length (context_words c) ≡ record_size
unfolding context_words
length_context_words c = refl
