-- Corners of the choice, by computing: what locks, late entries and two entries of one context come to. Assumes nothing.
use Rattle.std.specs.Prelude.{◌≡◌, refl, true, false, List, [], ◌∷◌, ℕ, ◌+◌, length}
use Rattle.columns.specs.Common.{mark, tabulate}
use Rattle.context.specs.declared.Context.{Context}
use Rattle.context.specs.declared.Status.TheVariants.{Blocked}
use Rattle.context.specs.With.{with_debug_id, with_status, with_running, with_currently_scheduled, with_vtime, with_queue_key_vd, with_lock}
use Rattle.context.specs.Key.{without_key}
use Rattle.weights.specs.Weights.{full_slice, whole_slice}
use Rattle.entries.specs.declared.Entry.{Entry}
use Rattle.percpu.specs.With.{cpu_queue, cpu_queue_len, cpu_sched_ctxt, cpu_current_ctxt, cpu_local_wakeup_list}
use Rattle.machine.specs.Machine.{Machine, cpu_at}
use Rattle.machine.specs.Outcome.{Outcome}
use Rattle.model.specs.Accepted.{by_switch}
use Rattle.model_cases.specs.Starred.{idler, worker, start}
use Rattle.plain_model.specs.Schedule.{plain_outcome}
use Rattle.plain_model.specs.Opened.{opened}

-- an entry of context x, whose id is x too
abbrev entry : (x vd vtime weight : ℕ) → Entry
entry x vd vtime weight = record { key = record { vd = vd; rem_slice = full_slice; ctxt_id = x }; vtime = vtime; weight = weight; context_ref = x }

-- contexts 1 and 2, whose keys in their records are of these deadlines; V is 0
abbrev one : ℕ → Context
one vd = with_queue_key_vd vd worker

abbrev two : ℕ → Context
two vd = with_debug_id 2 (with_queue_key_vd vd worker)

abbrev asleep : Context → Context
asleep c = with_status Blocked c

-- idle in charge and these entries
abbrev idle_with : List Context → List Entry → Machine
idle_with cs q = record { contexts = idler ∷ cs; cpus = cpu_queue q (cpu_queue_len (length q) start) ∷ [] }

-- context 2 in charge, with vtime 5
abbrev held_with : List Context → List Entry → Machine
held_with cs q =
    record {
      contexts = with_running false (with_currently_scheduled false idler) ∷ cs;
      cpus = cpu_queue q (cpu_queue_len (length q) (cpu_sched_ctxt 2 (cpu_current_ctxt 2 start))) ∷ [];
    }

abbrev holder : Context
holder = without_key (with_vtime 5 (with_running true (with_currently_scheduled true (with_debug_id 2 worker))))

-- rule, in charge, V, queue length, total weight, no room
abbrev told : Outcome → List ℕ
told o =
    let p = cpu_at o.machine 0 in
    o.rule ∷ p.block.sched_ctxt ∷ p.block.v ∷ length p.queue ∷ p.block.total_weight ∷ mark o.no_room ∷ []

-- a switch at once, and after 1.5 ticks of 2^30
abbrev at_once : Machine → List ℕ
at_once M = told (plain_outcome by_switch 0 0 M)

abbrev later : Machine → List ℕ
later M = told (plain_outcome by_switch 0 3375000 M)

-- 62 entries of context 2, one of context 1 under the key of its record and one under the key with which it enters; the local list wakes these
abbrev full_with : List ℕ → Machine
full_with names =
    record {
      contexts = idler ∷ one 5 ∷ with_lock 1 (two 0) ∷ without_key (with_debug_id 3 worker) ∷ [];
      cpus =
          cpu_local_wakeup_list names
          (cpu_queue (entry 1 5 0 1024 ∷ entry 1 (whole_slice 20) 0 1024 ∷ tabulate 62 (λ (i : ℕ). entry 2 (i + 9) 0 1024)) (cpu_queue_len 64 start)) ∷ [];
    }

-- the second entry of 1 comes when its lock is taken; it was let go when 2 came
pub locked : at_once (idle_with (one 1 ∷ two 2 ∷ []) (entry 1 1 10 1024 ∷ entry 1 2 5 1024 ∷ [])) ≡ 7 ∷ 1 ∷ 10 ∷ 1 ∷ 1024 ∷ 0 ∷ []
unfolding opened idler worker start
locked = refl

pub let_go : at_once (idle_with (one 1 ∷ two 2 ∷ []) (entry 1 1 10 1024 ∷ entry 2 2 7 1024 ∷ entry 1 3 5 1024 ∷ [])) ≡ 7 ∷ 1 ∷ 5 ∷ 2 ∷ 1024 ∷ 0 ∷ []
unfolding opened idler worker start
let_go = refl

-- both entries of a blocked context go, and the first by key alone gives up its weight
pub blocked_twice : at_once (idle_with (asleep (one 1) ∷ two 2 ∷ []) (entry 1 1 0 100 ∷ entry 1 2 0 30 ∷ [])) ≡ 9 ∷ 0 ∷ 0 ∷ 0 ∷ 924 ∷ 0 ∷ []
unfolding opened idler worker start
blocked_twice = refl

-- a blocked entry stays behind the first eligible one, and behind an earlier vtime: another entry's, or a late holder's
pub behind_eligible : at_once (idle_with (asleep (one 2) ∷ two 1 ∷ []) (entry 2 1 0 1024 ∷ entry 1 2 0 24 ∷ [])) ≡ 1 ∷ 2 ∷ 0 ∷ 1 ∷ 1024 ∷ 0 ∷ []
unfolding opened idler worker start
behind_eligible = refl

pub behind_earlier : at_once (idle_with (asleep (one 2) ∷ two 1 ∷ []) (entry 2 1 5 1024 ∷ entry 1 2 6 24 ∷ [])) ≡ 7 ∷ 2 ∷ 5 ∷ 1 ∷ 1024 ∷ 0 ∷ []
unfolding opened idler worker start
behind_earlier = refl

pub behind_holder : later (held_with (asleep (one 1) ∷ holder ∷ []) (entry 1 1 1572870 24 ∷ [])) ≡ 5 ∷ 2 ∷ 3145733 ∷ 1 ∷ 1024 ∷ 0 ∷ []
unfolding opened idler worker start
behind_holder = refl

-- at an equal vtime an entry is looked at, and so cleaned up, and not taken
pub level_with_holder : later (held_with (asleep (one 1) ∷ holder ∷ []) (entry 1 1 1572869 24 ∷ [])) ≡ 5 ∷ 2 ∷ 3183481 ∷ 0 ∷ 1000 ∷ 0 ∷ []
unfolding opened idler worker start
level_with_holder = refl

pub level_cleaned_up : at_once (idle_with (asleep (one 2) ∷ two 1 ∷ []) (entry 2 1 5 1024 ∷ entry 1 2 5 24 ∷ [])) ≡ 7 ∷ 2 ∷ 5 ∷ 0 ∷ 1000 ∷ 0 ∷ []
unfolding opened idler worker start
level_cleaned_up = refl

pub level_not_taken : at_once (idle_with (one 2 ∷ two 1 ∷ []) (entry 2 1 5 1024 ∷ entry 1 2 5 1024 ∷ [])) ≡ 7 ∷ 2 ∷ 5 ∷ 1 ∷ 1024 ∷ 0 ∷ []
unfolding opened idler worker start
level_not_taken = refl

-- the order of names matters: 1 takes the place of two entries, and only then there is room for 3
pub names_first : (plain_outcome by_switch 0 0 (full_with (1 ∷ 3 ∷ []))).no_room ≡ false
unfolding opened idler worker start
names_first = refl

pub names_last : (plain_outcome by_switch 0 0 (full_with (3 ∷ 1 ∷ []))).no_room ≡ true
unfolding opened idler worker start
names_last = refl

-- with one key for two entries their order matters: rule 1 this way round, rule 7 that way
pub one_key : at_once (idle_with (one 1 ∷ two 2 ∷ []) (entry 1 1 0 1024 ∷ entry 1 1 5 1024 ∷ [])) ≡ 1 ∷ 1 ∷ 0 ∷ 0 ∷ 1024 ∷ 0 ∷ []
unfolding opened idler worker start
one_key = refl

pub one_key_turned : at_once (idle_with (one 1 ∷ two 2 ∷ []) (entry 1 1 5 1024 ∷ entry 1 1 0 1024 ∷ [])) ≡ 7 ∷ 1 ∷ 5 ∷ 0 ∷ 1024 ∷ 0 ∷ []
unfolding opened idler worker start
one_key_turned = refl
