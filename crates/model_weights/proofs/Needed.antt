-- Each condition is needed, and as written they are not kept: by computing.
use mathlib.Core.Path.{◌≡◌, refl}
use mathlib.Core.Bool.{false}
use Prim.Native.Nat.{ℕ, zero, suc}
use native.Mathlib.Omega.{arith}
use Rattle.columns.specs.Common.{every}
use Rattle.machine.specs.Machine.{Machine}
use Rattle.model.specs.Opened.{opened}
use Rattle.model.specs.Tidy.{Idle}
use Rattle.model.specs.Schedule.{switch}
use Rattle.model.proofs.Cases.{never}
use Rattle.total_weight.specs.TotalWeight.{items_of, total_weight_of}
use Rattle.model_cases.specs.Starred.{idler, worker, start, worked}
use Rattle.model_weights.specs.Weighed.{EntryWeight, QueuedActive, InChargeActive, NobodyElse, IdleNotActive, Breaks, NotKept}
use Rattle.model_weights.specs.Machines.{heavy, asleep, uncounted, counted_already, idle_counted, blocked_in_charge}
use Rattle.model_weights.proofs.Computed.{Computed, computed_sound}
use Rattle.model_weights.proofs.ComputedTidy.{computed_tidy, computed_weight, computed_queued, computed_in_charge, computed_idle, computed_nobody, computed_agree, computed_own}

-- the worked example of document 01: only the worker's entry counts
pub worked_total : total_weight_of worked 0 ≡ 1024
unfolding opened idler worker start worked items_of total_weight_of
worked_total = refl

heavy_is : Computed heavy
unfolding opened every idler worker start heavy
heavy_is = record { ids = refl; seats = refl; entries = refl; timers = refl; names = refl; sorted = refl; absent = refl; one = refl; agreed = refl; keyless = refl; free = refl; apart = refl; marks = refl; scheduled = refl }

-- an entry has not its priority's weight: the worker wins, 2000 are stored and 1024 added up
pub weight_needed : Breaks (λ (M : Machine). QueuedActive M × InChargeActive M × NobodyElse M × IdleNotActive M)
unfolding opened every items_of total_weight_of idler worker start heavy
weight_needed =
    record {
      M = heavy;
      time = 2250000;
      sound = computed_sound heavy heavy_is;
      tidy = computed_tidy heavy heavy_is;
      accepted = record { present = refl; decision = refl; room = refl };
      own = computed_own heavy heavy_is 0 2250000 refl;
      agree = computed_agree heavy heavy_is refl;
      others = (computed_queued heavy heavy_is refl, computed_in_charge heavy heavy_is refl, computed_nobody heavy heavy_is refl, computed_idle heavy heavy_is refl);
      broken = λ a. let z : ◌≡◌ {A = ℕ} 2000 1024 = a 0 refl in omega arith;
    }

asleep_is : Computed asleep
unfolding opened every idler worker start asleep
asleep_is = record { ids = refl; seats = refl; entries = refl; timers = refl; names = refl; sorted = refl; absent = refl; one = refl; agreed = refl; keyless = refl; free = refl; apart = refl; marks = refl; scheduled = refl }

-- a queued context is not active: it wins, 1024 are stored and nothing is added up
pub queued_needed : Breaks (λ (M : Machine). EntryWeight M × InChargeActive M × NobodyElse M × IdleNotActive M)
unfolding opened every items_of total_weight_of idler worker start asleep
queued_needed =
    record {
      M = asleep;
      time = 2250000;
      sound = computed_sound asleep asleep_is;
      tidy = computed_tidy asleep asleep_is;
      accepted = record { present = refl; decision = refl; room = refl };
      own = computed_own asleep asleep_is 0 2250000 refl;
      agree = computed_agree asleep asleep_is refl;
      others = (computed_weight asleep asleep_is refl, computed_in_charge asleep asleep_is refl, computed_nobody asleep asleep_is refl, computed_idle asleep asleep_is refl);
      broken = λ a. let z : ◌≡◌ {A = ℕ} 1024 0 = a 0 refl in omega arith;
    }

uncounted_is : Computed uncounted
unfolding opened every idler worker start uncounted
uncounted_is = record { ids = refl; seats = refl; entries = refl; timers = refl; names = refl; sorted = refl; absent = refl; one = refl; agreed = refl; keyless = refl; free = refl; apart = refl; marks = refl; scheduled = refl }

-- a runnable context in charge is not active: it goes back to the queue with its weight, and another 1024 are in charge
pub in_charge_needed : Breaks (λ (M : Machine). EntryWeight M × QueuedActive M × NobodyElse M × IdleNotActive M)
unfolding opened every items_of total_weight_of idler worker start uncounted
in_charge_needed =
    record {
      M = uncounted;
      time = 2250000;
      sound = computed_sound uncounted uncounted_is;
      tidy = computed_tidy uncounted uncounted_is;
      accepted = record { present = refl; decision = refl; room = refl };
      own = computed_own uncounted uncounted_is 0 2250000 refl;
      agree = computed_agree uncounted uncounted_is refl;
      others = (computed_weight uncounted uncounted_is refl, computed_queued uncounted uncounted_is refl, computed_nobody uncounted uncounted_is refl, computed_idle uncounted uncounted_is refl);
      broken = λ a. let z : ◌≡◌ {A = ℕ} 1024 2048 = a 0 refl in omega arith;
    }

counted_already_is : Computed counted_already
unfolding opened every idler worker start counted_already
counted_already_is = record { ids = refl; seats = refl; entries = refl; timers = refl; names = refl; sorted = refl; absent = refl; one = refl; agreed = refl; keyless = refl; free = refl; apart = refl; marks = refl; scheduled = refl }

-- another is active: it enters the queue, and is not counted
pub nobody_else_needed : Breaks (λ (M : Machine). EntryWeight M × QueuedActive M × InChargeActive M × IdleNotActive M)
unfolding opened every items_of total_weight_of idler worker start counted_already
nobody_else_needed =
    record {
      M = counted_already;
      time = 2250000;
      sound = computed_sound counted_already counted_already_is;
      tidy = computed_tidy counted_already counted_already_is;
      accepted = record { present = refl; decision = refl; room = refl };
      own = computed_own counted_already counted_already_is 0 2250000 refl;
      agree = computed_agree counted_already counted_already_is refl;
      others = (computed_weight counted_already counted_already_is refl, computed_queued counted_already counted_already_is refl, computed_in_charge counted_already counted_already_is refl, computed_idle counted_already counted_already_is refl);
      broken = λ a. let z : ◌≡◌ {A = ℕ} 0 1024 = a 0 refl in omega arith;
    }

idle_counted_is : Computed idle_counted
unfolding opened every idler worker start idle_counted
idle_counted_is = record { ids = refl; seats = refl; entries = refl; timers = refl; names = refl; sorted = refl; absent = refl; one = refl; agreed = refl; keyless = refl; free = refl; apart = refl; marks = refl; scheduled = refl }

-- the idle context is active: it loses the slice, and stays counted
pub idle_needed : Breaks (λ (M : Machine). EntryWeight M × QueuedActive M × InChargeActive M × NobodyElse M)
unfolding opened every items_of total_weight_of idler worker start idle_counted
idle_needed =
    record {
      M = idle_counted;
      time = 2250000;
      sound = computed_sound idle_counted idle_counted_is;
      tidy = computed_tidy idle_counted idle_counted_is;
      accepted = record { present = refl; decision = refl; room = refl };
      own = computed_own idle_counted idle_counted_is 0 2250000 refl;
      agree = computed_agree idle_counted idle_counted_is refl;
      others = (computed_weight idle_counted idle_counted_is refl, computed_queued idle_counted idle_counted_is refl, computed_in_charge idle_counted idle_counted_is refl, computed_nobody idle_counted idle_counted_is refl);
      broken = λ a. let z : ◌≡◌ {A = ℕ} 2048 1024 = a 0 refl in omega arith;
    }

blocked_in_charge_is : Computed blocked_in_charge
unfolding opened every idler worker start blocked_in_charge
blocked_in_charge_is = record { ids = refl; seats = refl; entries = refl; timers = refl; names = refl; sorted = refl; absent = refl; one = refl; agreed = refl; keyless = refl; free = refl; apart = refl; marks = refl; scheduled = refl }

-- context 1 is woken: it is runnable, in charge of CPU 1, and not active
pub not_kept : NotKept
unfolding opened every items_of total_weight_of idler worker start blocked_in_charge
not_kept =
    record {
      M = blocked_in_charge;
      time = 1000;
      sound = computed_sound blocked_in_charge blocked_in_charge_is;
      tidy = computed_tidy blocked_in_charge blocked_in_charge_is;
      accepted = record { present = refl; decision = refl; room = refl };
      own = computed_own blocked_in_charge blocked_in_charge_is 0 1000 refl;
      weighed = record {
        entry_weight = computed_weight blocked_in_charge blocked_in_charge_is refl;
        queued_active = computed_queued blocked_in_charge blocked_in_charge_is refl;
        in_charge_active = computed_in_charge blocked_in_charge blocked_in_charge_is refl;
        nobody_else = computed_nobody blocked_in_charge blocked_in_charge_is refl;
        idle_not_active = computed_idle blocked_in_charge blocked_in_charge_is refl;
      };
      agree = computed_agree blocked_in_charge blocked_in_charge_is refl;
      lost = λ a. never {b = false} (a 1 1 (record { present = refl; named = refl }) refl not_idle) refl;
    }
  where
    not_idle : (j : ℕ) → Idle (switch 0 1000 blocked_in_charge).machine 1 j → ⊥
    not_idle zero d = let z : ◌≡◌ {A = ℕ} 0 1 = d.named in omega arith
    not_idle (suc zero) d = let z : ◌≡◌ {A = ℕ} 2 1 = d.named in omega arith
    not_idle (suc (suc j)) d = never {b = false} d.present refl
