-- A context's record with one field changed. Written by tools/records.py.
use Rattle.std.specs.Prelude.{ℕ, Bool, true, false, ◌≡◌, refl, List, [], ◌∷◌, ◌++◌, eqb, length, get_or}
use Rattle.context.specs.declared.Context.{Context}
use Rattle.context.specs.declared.Status.{Status}

abbrev pub with_gone : Bool → Context → Context
with_gone x c =
    record {
      gone = x;
      debug_id = c.debug_id;
      status = c.status;
      running = c.running;
      currently_scheduled = c.currently_scheduled;
      cpu_id = c.cpu_id;
      schedule_time = c.schedule_time;
      switch_time = c.switch_time;
      active_cpu_time = c.active_cpu_time;
      sched_cpu_time = c.sched_cpu_time;
      sched_affinity = c.sched_affinity;
      inside_syscall = c.inside_syscall;
      has_wake = c.has_wake;
      wake = c.wake;
      userspace = c.userspace;
      being_sigkilled = c.being_sigkilled;
      prio = c.prio;
      vtime = c.vtime;
      vd = c.vd;
      rem_slice = c.rem_slice;
      is_active = c.is_active;
      has_queue_key = c.has_queue_key;
      queue_key_vd = c.queue_key_vd;
      queue_key_rem_slice = c.queue_key_rem_slice;
      lock = c.lock;
      addr_space = c.addr_space;
    }

abbrev pub with_debug_id : ℕ → Context → Context
with_debug_id x c =
    record {
      gone = c.gone;
      debug_id = x;
      status = c.status;
      running = c.running;
      currently_scheduled = c.currently_scheduled;
      cpu_id = c.cpu_id;
      schedule_time = c.schedule_time;
      switch_time = c.switch_time;
      active_cpu_time = c.active_cpu_time;
      sched_cpu_time = c.sched_cpu_time;
      sched_affinity = c.sched_affinity;
      inside_syscall = c.inside_syscall;
      has_wake = c.has_wake;
      wake = c.wake;
      userspace = c.userspace;
      being_sigkilled = c.being_sigkilled;
      prio = c.prio;
      vtime = c.vtime;
      vd = c.vd;
      rem_slice = c.rem_slice;
      is_active = c.is_active;
      has_queue_key = c.has_queue_key;
      queue_key_vd = c.queue_key_vd;
      queue_key_rem_slice = c.queue_key_rem_slice;
      lock = c.lock;
      addr_space = c.addr_space;
    }

abbrev pub with_status : Status → Context → Context
with_status x c =
    record {
      gone = c.gone;
      debug_id = c.debug_id;
      status = x;
      running = c.running;
      currently_scheduled = c.currently_scheduled;
      cpu_id = c.cpu_id;
      schedule_time = c.schedule_time;
      switch_time = c.switch_time;
      active_cpu_time = c.active_cpu_time;
      sched_cpu_time = c.sched_cpu_time;
      sched_affinity = c.sched_affinity;
      inside_syscall = c.inside_syscall;
      has_wake = c.has_wake;
      wake = c.wake;
      userspace = c.userspace;
      being_sigkilled = c.being_sigkilled;
      prio = c.prio;
      vtime = c.vtime;
      vd = c.vd;
      rem_slice = c.rem_slice;
      is_active = c.is_active;
      has_queue_key = c.has_queue_key;
      queue_key_vd = c.queue_key_vd;
      queue_key_rem_slice = c.queue_key_rem_slice;
      lock = c.lock;
      addr_space = c.addr_space;
    }

abbrev pub with_running : Bool → Context → Context
with_running x c =
    record {
      gone = c.gone;
      debug_id = c.debug_id;
      status = c.status;
      running = x;
      currently_scheduled = c.currently_scheduled;
      cpu_id = c.cpu_id;
      schedule_time = c.schedule_time;
      switch_time = c.switch_time;
      active_cpu_time = c.active_cpu_time;
      sched_cpu_time = c.sched_cpu_time;
      sched_affinity = c.sched_affinity;
      inside_syscall = c.inside_syscall;
      has_wake = c.has_wake;
      wake = c.wake;
      userspace = c.userspace;
      being_sigkilled = c.being_sigkilled;
      prio = c.prio;
      vtime = c.vtime;
      vd = c.vd;
      rem_slice = c.rem_slice;
      is_active = c.is_active;
      has_queue_key = c.has_queue_key;
      queue_key_vd = c.queue_key_vd;
      queue_key_rem_slice = c.queue_key_rem_slice;
      lock = c.lock;
      addr_space = c.addr_space;
    }

abbrev pub with_currently_scheduled : Bool → Context → Context
with_currently_scheduled x c =
    record {
      gone = c.gone;
      debug_id = c.debug_id;
      status = c.status;
      running = c.running;
      currently_scheduled = x;
      cpu_id = c.cpu_id;
      schedule_time = c.schedule_time;
      switch_time = c.switch_time;
      active_cpu_time = c.active_cpu_time;
      sched_cpu_time = c.sched_cpu_time;
      sched_affinity = c.sched_affinity;
      inside_syscall = c.inside_syscall;
      has_wake = c.has_wake;
      wake = c.wake;
      userspace = c.userspace;
      being_sigkilled = c.being_sigkilled;
      prio = c.prio;
      vtime = c.vtime;
      vd = c.vd;
      rem_slice = c.rem_slice;
      is_active = c.is_active;
      has_queue_key = c.has_queue_key;
      queue_key_vd = c.queue_key_vd;
      queue_key_rem_slice = c.queue_key_rem_slice;
      lock = c.lock;
      addr_space = c.addr_space;
    }

abbrev pub with_cpu_id : ℕ → Context → Context
with_cpu_id x c =
    record {
      gone = c.gone;
      debug_id = c.debug_id;
      status = c.status;
      running = c.running;
      currently_scheduled = c.currently_scheduled;
      cpu_id = x;
      schedule_time = c.schedule_time;
      switch_time = c.switch_time;
      active_cpu_time = c.active_cpu_time;
      sched_cpu_time = c.sched_cpu_time;
      sched_affinity = c.sched_affinity;
      inside_syscall = c.inside_syscall;
      has_wake = c.has_wake;
      wake = c.wake;
      userspace = c.userspace;
      being_sigkilled = c.being_sigkilled;
      prio = c.prio;
      vtime = c.vtime;
      vd = c.vd;
      rem_slice = c.rem_slice;
      is_active = c.is_active;
      has_queue_key = c.has_queue_key;
      queue_key_vd = c.queue_key_vd;
      queue_key_rem_slice = c.queue_key_rem_slice;
      lock = c.lock;
      addr_space = c.addr_space;
    }

abbrev pub with_schedule_time : ℕ → Context → Context
with_schedule_time x c =
    record {
      gone = c.gone;
      debug_id = c.debug_id;
      status = c.status;
      running = c.running;
      currently_scheduled = c.currently_scheduled;
      cpu_id = c.cpu_id;
      schedule_time = x;
      switch_time = c.switch_time;
      active_cpu_time = c.active_cpu_time;
      sched_cpu_time = c.sched_cpu_time;
      sched_affinity = c.sched_affinity;
      inside_syscall = c.inside_syscall;
      has_wake = c.has_wake;
      wake = c.wake;
      userspace = c.userspace;
      being_sigkilled = c.being_sigkilled;
      prio = c.prio;
      vtime = c.vtime;
      vd = c.vd;
      rem_slice = c.rem_slice;
      is_active = c.is_active;
      has_queue_key = c.has_queue_key;
      queue_key_vd = c.queue_key_vd;
      queue_key_rem_slice = c.queue_key_rem_slice;
      lock = c.lock;
      addr_space = c.addr_space;
    }

abbrev pub with_switch_time : ℕ → Context → Context
with_switch_time x c =
    record {
      gone = c.gone;
      debug_id = c.debug_id;
      status = c.status;
      running = c.running;
      currently_scheduled = c.currently_scheduled;
      cpu_id = c.cpu_id;
      schedule_time = c.schedule_time;
      switch_time = x;
      active_cpu_time = c.active_cpu_time;
      sched_cpu_time = c.sched_cpu_time;
      sched_affinity = c.sched_affinity;
      inside_syscall = c.inside_syscall;
      has_wake = c.has_wake;
      wake = c.wake;
      userspace = c.userspace;
      being_sigkilled = c.being_sigkilled;
      prio = c.prio;
      vtime = c.vtime;
      vd = c.vd;
      rem_slice = c.rem_slice;
      is_active = c.is_active;
      has_queue_key = c.has_queue_key;
      queue_key_vd = c.queue_key_vd;
      queue_key_rem_slice = c.queue_key_rem_slice;
      lock = c.lock;
      addr_space = c.addr_space;
    }

abbrev pub with_active_cpu_time : ℕ → Context → Context
with_active_cpu_time x c =
    record {
      gone = c.gone;
      debug_id = c.debug_id;
      status = c.status;
      running = c.running;
      currently_scheduled = c.currently_scheduled;
      cpu_id = c.cpu_id;
      schedule_time = c.schedule_time;
      switch_time = c.switch_time;
      active_cpu_time = x;
      sched_cpu_time = c.sched_cpu_time;
      sched_affinity = c.sched_affinity;
      inside_syscall = c.inside_syscall;
      has_wake = c.has_wake;
      wake = c.wake;
      userspace = c.userspace;
      being_sigkilled = c.being_sigkilled;
      prio = c.prio;
      vtime = c.vtime;
      vd = c.vd;
      rem_slice = c.rem_slice;
      is_active = c.is_active;
      has_queue_key = c.has_queue_key;
      queue_key_vd = c.queue_key_vd;
      queue_key_rem_slice = c.queue_key_rem_slice;
      lock = c.lock;
      addr_space = c.addr_space;
    }

abbrev pub with_sched_cpu_time : ℕ → Context → Context
with_sched_cpu_time x c =
    record {
      gone = c.gone;
      debug_id = c.debug_id;
      status = c.status;
      running = c.running;
      currently_scheduled = c.currently_scheduled;
      cpu_id = c.cpu_id;
      schedule_time = c.schedule_time;
      switch_time = c.switch_time;
      active_cpu_time = c.active_cpu_time;
      sched_cpu_time = x;
      sched_affinity = c.sched_affinity;
      inside_syscall = c.inside_syscall;
      has_wake = c.has_wake;
      wake = c.wake;
      userspace = c.userspace;
      being_sigkilled = c.being_sigkilled;
      prio = c.prio;
      vtime = c.vtime;
      vd = c.vd;
      rem_slice = c.rem_slice;
      is_active = c.is_active;
      has_queue_key = c.has_queue_key;
      queue_key_vd = c.queue_key_vd;
      queue_key_rem_slice = c.queue_key_rem_slice;
      lock = c.lock;
      addr_space = c.addr_space;
    }

abbrev pub with_sched_affinity : ℕ → Context → Context
with_sched_affinity x c =
    record {
      gone = c.gone;
      debug_id = c.debug_id;
      status = c.status;
      running = c.running;
      currently_scheduled = c.currently_scheduled;
      cpu_id = c.cpu_id;
      schedule_time = c.schedule_time;
      switch_time = c.switch_time;
      active_cpu_time = c.active_cpu_time;
      sched_cpu_time = c.sched_cpu_time;
      sched_affinity = x;
      inside_syscall = c.inside_syscall;
      has_wake = c.has_wake;
      wake = c.wake;
      userspace = c.userspace;
      being_sigkilled = c.being_sigkilled;
      prio = c.prio;
      vtime = c.vtime;
      vd = c.vd;
      rem_slice = c.rem_slice;
      is_active = c.is_active;
      has_queue_key = c.has_queue_key;
      queue_key_vd = c.queue_key_vd;
      queue_key_rem_slice = c.queue_key_rem_slice;
      lock = c.lock;
      addr_space = c.addr_space;
    }

abbrev pub with_inside_syscall : Bool → Context → Context
with_inside_syscall x c =
    record {
      gone = c.gone;
      debug_id = c.debug_id;
      status = c.status;
      running = c.running;
      currently_scheduled = c.currently_scheduled;
      cpu_id = c.cpu_id;
      schedule_time = c.schedule_time;
      switch_time = c.switch_time;
      active_cpu_time = c.active_cpu_time;
      sched_cpu_time = c.sched_cpu_time;
      sched_affinity = c.sched_affinity;
      inside_syscall = x;
      has_wake = c.has_wake;
      wake = c.wake;
      userspace = c.userspace;
      being_sigkilled = c.being_sigkilled;
      prio = c.prio;
      vtime = c.vtime;
      vd = c.vd;
      rem_slice = c.rem_slice;
      is_active = c.is_active;
      has_queue_key = c.has_queue_key;
      queue_key_vd = c.queue_key_vd;
      queue_key_rem_slice = c.queue_key_rem_slice;
      lock = c.lock;
      addr_space = c.addr_space;
    }

abbrev pub with_has_wake : Bool → Context → Context
with_has_wake x c =
    record {
      gone = c.gone;
      debug_id = c.debug_id;
      status = c.status;
      running = c.running;
      currently_scheduled = c.currently_scheduled;
      cpu_id = c.cpu_id;
      schedule_time = c.schedule_time;
      switch_time = c.switch_time;
      active_cpu_time = c.active_cpu_time;
      sched_cpu_time = c.sched_cpu_time;
      sched_affinity = c.sched_affinity;
      inside_syscall = c.inside_syscall;
      has_wake = x;
      wake = c.wake;
      userspace = c.userspace;
      being_sigkilled = c.being_sigkilled;
      prio = c.prio;
      vtime = c.vtime;
      vd = c.vd;
      rem_slice = c.rem_slice;
      is_active = c.is_active;
      has_queue_key = c.has_queue_key;
      queue_key_vd = c.queue_key_vd;
      queue_key_rem_slice = c.queue_key_rem_slice;
      lock = c.lock;
      addr_space = c.addr_space;
    }

abbrev pub with_wake : ℕ → Context → Context
with_wake x c =
    record {
      gone = c.gone;
      debug_id = c.debug_id;
      status = c.status;
      running = c.running;
      currently_scheduled = c.currently_scheduled;
      cpu_id = c.cpu_id;
      schedule_time = c.schedule_time;
      switch_time = c.switch_time;
      active_cpu_time = c.active_cpu_time;
      sched_cpu_time = c.sched_cpu_time;
      sched_affinity = c.sched_affinity;
      inside_syscall = c.inside_syscall;
      has_wake = c.has_wake;
      wake = x;
      userspace = c.userspace;
      being_sigkilled = c.being_sigkilled;
      prio = c.prio;
      vtime = c.vtime;
      vd = c.vd;
      rem_slice = c.rem_slice;
      is_active = c.is_active;
      has_queue_key = c.has_queue_key;
      queue_key_vd = c.queue_key_vd;
      queue_key_rem_slice = c.queue_key_rem_slice;
      lock = c.lock;
      addr_space = c.addr_space;
    }

abbrev pub with_userspace : Bool → Context → Context
with_userspace x c =
    record {
      gone = c.gone;
      debug_id = c.debug_id;
      status = c.status;
      running = c.running;
      currently_scheduled = c.currently_scheduled;
      cpu_id = c.cpu_id;
      schedule_time = c.schedule_time;
      switch_time = c.switch_time;
      active_cpu_time = c.active_cpu_time;
      sched_cpu_time = c.sched_cpu_time;
      sched_affinity = c.sched_affinity;
      inside_syscall = c.inside_syscall;
      has_wake = c.has_wake;
      wake = c.wake;
      userspace = x;
      being_sigkilled = c.being_sigkilled;
      prio = c.prio;
      vtime = c.vtime;
      vd = c.vd;
      rem_slice = c.rem_slice;
      is_active = c.is_active;
      has_queue_key = c.has_queue_key;
      queue_key_vd = c.queue_key_vd;
      queue_key_rem_slice = c.queue_key_rem_slice;
      lock = c.lock;
      addr_space = c.addr_space;
    }

abbrev pub with_being_sigkilled : Bool → Context → Context
with_being_sigkilled x c =
    record {
      gone = c.gone;
      debug_id = c.debug_id;
      status = c.status;
      running = c.running;
      currently_scheduled = c.currently_scheduled;
      cpu_id = c.cpu_id;
      schedule_time = c.schedule_time;
      switch_time = c.switch_time;
      active_cpu_time = c.active_cpu_time;
      sched_cpu_time = c.sched_cpu_time;
      sched_affinity = c.sched_affinity;
      inside_syscall = c.inside_syscall;
      has_wake = c.has_wake;
      wake = c.wake;
      userspace = c.userspace;
      being_sigkilled = x;
      prio = c.prio;
      vtime = c.vtime;
      vd = c.vd;
      rem_slice = c.rem_slice;
      is_active = c.is_active;
      has_queue_key = c.has_queue_key;
      queue_key_vd = c.queue_key_vd;
      queue_key_rem_slice = c.queue_key_rem_slice;
      lock = c.lock;
      addr_space = c.addr_space;
    }

abbrev pub with_prio : ℕ → Context → Context
with_prio x c =
    record {
      gone = c.gone;
      debug_id = c.debug_id;
      status = c.status;
      running = c.running;
      currently_scheduled = c.currently_scheduled;
      cpu_id = c.cpu_id;
      schedule_time = c.schedule_time;
      switch_time = c.switch_time;
      active_cpu_time = c.active_cpu_time;
      sched_cpu_time = c.sched_cpu_time;
      sched_affinity = c.sched_affinity;
      inside_syscall = c.inside_syscall;
      has_wake = c.has_wake;
      wake = c.wake;
      userspace = c.userspace;
      being_sigkilled = c.being_sigkilled;
      prio = x;
      vtime = c.vtime;
      vd = c.vd;
      rem_slice = c.rem_slice;
      is_active = c.is_active;
      has_queue_key = c.has_queue_key;
      queue_key_vd = c.queue_key_vd;
      queue_key_rem_slice = c.queue_key_rem_slice;
      lock = c.lock;
      addr_space = c.addr_space;
    }

abbrev pub with_vtime : ℕ → Context → Context
with_vtime x c =
    record {
      gone = c.gone;
      debug_id = c.debug_id;
      status = c.status;
      running = c.running;
      currently_scheduled = c.currently_scheduled;
      cpu_id = c.cpu_id;
      schedule_time = c.schedule_time;
      switch_time = c.switch_time;
      active_cpu_time = c.active_cpu_time;
      sched_cpu_time = c.sched_cpu_time;
      sched_affinity = c.sched_affinity;
      inside_syscall = c.inside_syscall;
      has_wake = c.has_wake;
      wake = c.wake;
      userspace = c.userspace;
      being_sigkilled = c.being_sigkilled;
      prio = c.prio;
      vtime = x;
      vd = c.vd;
      rem_slice = c.rem_slice;
      is_active = c.is_active;
      has_queue_key = c.has_queue_key;
      queue_key_vd = c.queue_key_vd;
      queue_key_rem_slice = c.queue_key_rem_slice;
      lock = c.lock;
      addr_space = c.addr_space;
    }

abbrev pub with_vd : ℕ → Context → Context
with_vd x c =
    record {
      gone = c.gone;
      debug_id = c.debug_id;
      status = c.status;
      running = c.running;
      currently_scheduled = c.currently_scheduled;
      cpu_id = c.cpu_id;
      schedule_time = c.schedule_time;
      switch_time = c.switch_time;
      active_cpu_time = c.active_cpu_time;
      sched_cpu_time = c.sched_cpu_time;
      sched_affinity = c.sched_affinity;
      inside_syscall = c.inside_syscall;
      has_wake = c.has_wake;
      wake = c.wake;
      userspace = c.userspace;
      being_sigkilled = c.being_sigkilled;
      prio = c.prio;
      vtime = c.vtime;
      vd = x;
      rem_slice = c.rem_slice;
      is_active = c.is_active;
      has_queue_key = c.has_queue_key;
      queue_key_vd = c.queue_key_vd;
      queue_key_rem_slice = c.queue_key_rem_slice;
      lock = c.lock;
      addr_space = c.addr_space;
    }

abbrev pub with_rem_slice : ℕ → Context → Context
with_rem_slice x c =
    record {
      gone = c.gone;
      debug_id = c.debug_id;
      status = c.status;
      running = c.running;
      currently_scheduled = c.currently_scheduled;
      cpu_id = c.cpu_id;
      schedule_time = c.schedule_time;
      switch_time = c.switch_time;
      active_cpu_time = c.active_cpu_time;
      sched_cpu_time = c.sched_cpu_time;
      sched_affinity = c.sched_affinity;
      inside_syscall = c.inside_syscall;
      has_wake = c.has_wake;
      wake = c.wake;
      userspace = c.userspace;
      being_sigkilled = c.being_sigkilled;
      prio = c.prio;
      vtime = c.vtime;
      vd = c.vd;
      rem_slice = x;
      is_active = c.is_active;
      has_queue_key = c.has_queue_key;
      queue_key_vd = c.queue_key_vd;
      queue_key_rem_slice = c.queue_key_rem_slice;
      lock = c.lock;
      addr_space = c.addr_space;
    }

abbrev pub with_is_active : Bool → Context → Context
with_is_active x c =
    record {
      gone = c.gone;
      debug_id = c.debug_id;
      status = c.status;
      running = c.running;
      currently_scheduled = c.currently_scheduled;
      cpu_id = c.cpu_id;
      schedule_time = c.schedule_time;
      switch_time = c.switch_time;
      active_cpu_time = c.active_cpu_time;
      sched_cpu_time = c.sched_cpu_time;
      sched_affinity = c.sched_affinity;
      inside_syscall = c.inside_syscall;
      has_wake = c.has_wake;
      wake = c.wake;
      userspace = c.userspace;
      being_sigkilled = c.being_sigkilled;
      prio = c.prio;
      vtime = c.vtime;
      vd = c.vd;
      rem_slice = c.rem_slice;
      is_active = x;
      has_queue_key = c.has_queue_key;
      queue_key_vd = c.queue_key_vd;
      queue_key_rem_slice = c.queue_key_rem_slice;
      lock = c.lock;
      addr_space = c.addr_space;
    }

abbrev pub with_has_queue_key : Bool → Context → Context
with_has_queue_key x c =
    record {
      gone = c.gone;
      debug_id = c.debug_id;
      status = c.status;
      running = c.running;
      currently_scheduled = c.currently_scheduled;
      cpu_id = c.cpu_id;
      schedule_time = c.schedule_time;
      switch_time = c.switch_time;
      active_cpu_time = c.active_cpu_time;
      sched_cpu_time = c.sched_cpu_time;
      sched_affinity = c.sched_affinity;
      inside_syscall = c.inside_syscall;
      has_wake = c.has_wake;
      wake = c.wake;
      userspace = c.userspace;
      being_sigkilled = c.being_sigkilled;
      prio = c.prio;
      vtime = c.vtime;
      vd = c.vd;
      rem_slice = c.rem_slice;
      is_active = c.is_active;
      has_queue_key = x;
      queue_key_vd = c.queue_key_vd;
      queue_key_rem_slice = c.queue_key_rem_slice;
      lock = c.lock;
      addr_space = c.addr_space;
    }

abbrev pub with_queue_key_vd : ℕ → Context → Context
with_queue_key_vd x c =
    record {
      gone = c.gone;
      debug_id = c.debug_id;
      status = c.status;
      running = c.running;
      currently_scheduled = c.currently_scheduled;
      cpu_id = c.cpu_id;
      schedule_time = c.schedule_time;
      switch_time = c.switch_time;
      active_cpu_time = c.active_cpu_time;
      sched_cpu_time = c.sched_cpu_time;
      sched_affinity = c.sched_affinity;
      inside_syscall = c.inside_syscall;
      has_wake = c.has_wake;
      wake = c.wake;
      userspace = c.userspace;
      being_sigkilled = c.being_sigkilled;
      prio = c.prio;
      vtime = c.vtime;
      vd = c.vd;
      rem_slice = c.rem_slice;
      is_active = c.is_active;
      has_queue_key = c.has_queue_key;
      queue_key_vd = x;
      queue_key_rem_slice = c.queue_key_rem_slice;
      lock = c.lock;
      addr_space = c.addr_space;
    }

abbrev pub with_queue_key_rem_slice : ℕ → Context → Context
with_queue_key_rem_slice x c =
    record {
      gone = c.gone;
      debug_id = c.debug_id;
      status = c.status;
      running = c.running;
      currently_scheduled = c.currently_scheduled;
      cpu_id = c.cpu_id;
      schedule_time = c.schedule_time;
      switch_time = c.switch_time;
      active_cpu_time = c.active_cpu_time;
      sched_cpu_time = c.sched_cpu_time;
      sched_affinity = c.sched_affinity;
      inside_syscall = c.inside_syscall;
      has_wake = c.has_wake;
      wake = c.wake;
      userspace = c.userspace;
      being_sigkilled = c.being_sigkilled;
      prio = c.prio;
      vtime = c.vtime;
      vd = c.vd;
      rem_slice = c.rem_slice;
      is_active = c.is_active;
      has_queue_key = c.has_queue_key;
      queue_key_vd = c.queue_key_vd;
      queue_key_rem_slice = x;
      lock = c.lock;
      addr_space = c.addr_space;
    }

abbrev pub with_lock : ℕ → Context → Context
with_lock x c =
    record {
      gone = c.gone;
      debug_id = c.debug_id;
      status = c.status;
      running = c.running;
      currently_scheduled = c.currently_scheduled;
      cpu_id = c.cpu_id;
      schedule_time = c.schedule_time;
      switch_time = c.switch_time;
      active_cpu_time = c.active_cpu_time;
      sched_cpu_time = c.sched_cpu_time;
      sched_affinity = c.sched_affinity;
      inside_syscall = c.inside_syscall;
      has_wake = c.has_wake;
      wake = c.wake;
      userspace = c.userspace;
      being_sigkilled = c.being_sigkilled;
      prio = c.prio;
      vtime = c.vtime;
      vd = c.vd;
      rem_slice = c.rem_slice;
      is_active = c.is_active;
      has_queue_key = c.has_queue_key;
      queue_key_vd = c.queue_key_vd;
      queue_key_rem_slice = c.queue_key_rem_slice;
      lock = x;
      addr_space = c.addr_space;
    }

abbrev pub with_addr_space : ℕ → Context → Context
with_addr_space x c =
    record {
      gone = c.gone;
      debug_id = c.debug_id;
      status = c.status;
      running = c.running;
      currently_scheduled = c.currently_scheduled;
      cpu_id = c.cpu_id;
      schedule_time = c.schedule_time;
      switch_time = c.switch_time;
      active_cpu_time = c.active_cpu_time;
      sched_cpu_time = c.sched_cpu_time;
      sched_affinity = c.sched_affinity;
      inside_syscall = c.inside_syscall;
      has_wake = c.has_wake;
      wake = c.wake;
      userspace = c.userspace;
      being_sigkilled = c.being_sigkilled;
      prio = c.prio;
      vtime = c.vtime;
      vd = c.vd;
      rem_slice = c.rem_slice;
      is_active = c.is_active;
      has_queue_key = c.has_queue_key;
      queue_key_vd = c.queue_key_vd;
      queue_key_rem_slice = c.queue_key_rem_slice;
      lock = c.lock;
      addr_space = x;
    }
