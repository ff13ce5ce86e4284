-- An image that is known to pass is known to pass after an operation, as long as the bounds are in range. Assumes nothing.
use mathlib.Core.Path.{◌≡◌, sym, ap, ◌∙◌, subst}
use mathlib.Core.Logic.{◌⊎◌, inl, inr}
use mathlib.Core.Bool.{Bool, true, false}
use mathlib.Core.List.{List}
use Prim.Native.Nat.{ℕ, ◌+◌, ◌<◌, ◌≤◌}
use native.Mathlib.Omega.{arith}
use lib.Dec.{ltb, leb}
use borrow.Author.Tests.{lt-leb, le-ltb}
use Rattle.context.specs.declared.Context.{Context}
use Rattle.entries.specs.declared.Entry.{Entry}
use Rattle.percpu.specs.Layout.{no_entry}
use Rattle.percpu.specs.Cpu.{Cpu}
use Rattle.percpu.proofs.Read.{Short}
use Rattle.machine.specs.Machine.{Machine, cpu_at, no_cpu}
use Rattle.machine.specs.Encode.{encode, decode}
use Rattle.machine.specs.Shape.{Image, Fits}
use Rattle.machine.proofs.Decoded.{decode_encode}
use Rattle.image.specs.Refusal.{image_refusal}
use Rattle.image.proofs.Admitted.{Passed, passed, decoded, decoded_fits, admitted}
use Rattle.model.specs.Turn.{elapsed, spent}
use Rattle.model.specs.Accepted.{Call, outcome}
use Rattle.model.proofs.Cases.{pick}
use Rattle.stages.specs.Stage.{Ranged}
use Rattle.stages.specs.Bounds.{slice_bound}
use Rattle.stages.proofs.Fitting.{all_of}
use Rattle.admission.proofs.Bounds.{ranged}
use Rattle.model_leaves.proofs.WellFormed.{Stands, absent, present, WellFormed}
use Rattle.model_leaves.proofs.Decoding.{well_formed}
use Rattle.model_leaves.proofs.Deciding.{TargetFormed, decision_leaves}
use Rattle.model_leaves.proofs.Operations.{unblock_leaves, drain_leaves, block_leaves}
use Rattle.model_leaves.proofs.Passing.{MachineRaised, cpus_are, names_are, machine_passes}
use Rattle.switch_ops.specs.Reply.{refusal}
use Rattle.context_ops.specs.Reply.{Reply, reply}
use Rattle.answer.specs.declared.Answer.{Answer}
use Rattle.operations.specs.Operation.{operation_reply}
use Rattle.numbers.specs.Limits.{max_number}
use Rattle.growth.specs.declared.Bounds.{Bounds}
use Rattle.growth.specs.Growth.{Within, AtMost, most_ticks, slices, after_theft, after_turn, InRange, may_steal, turn_bounds, call_bounds, Known}
use Rattle.growth.proofs.Low.{slice_charge}
use Rattle.growth.proofs.Stealing.{stolen_bound}
use Rattle.growth.proofs.Deciding.{within_more}
use Rattle.growth.proofs.Turning.{decision_grows}
use Rattle.growth.proofs.Operations.{block_within, drain_within, unblock_within}
use Rattle.growth.proofs.Turns.{few_ticks, in_time, turn_told}
use Rattle.growth.proofs.Called.{StandsFor, Promised, operation_leaves}

turn_more : (b : Bounds) (time e : ℕ) (steals : Bool) → AtMost b (after_turn b time e steals)
unfolding after_turn
turn_more b time e true = record { times = omega arith; virtual_times = omega arith }
turn_more b time e false = record { times = omega arith; virtual_times = omega arith }

pub bounds_more : (c : ℕ) (M : Machine) (operation cpu time : ℕ) (b : Bounds) → AtMost b (call_bounds c M operation cpu time b)
unfolding call_bounds
bounds_more c M operation cpu time b =
    let same : AtMost b b = record { times = omega arith; virtual_times = omega arith } in
    pick (AtMost b) (leb c cpu) (λ e. same) (λ e. pick (AtMost b) (ltb 3 operation) (λ f. same) (λ f. turn_more b time _ (may_steal c (cpu_at M cpu).block)))

turn_is : (c : ℕ) (M : Machine) (operation cpu time : ℕ) (b : Bounds) → cpu < c → operation < 4 → turn_bounds c (cpu_at M cpu).block time b ≡ call_bounds c M operation cpu time b
unfolding call_bounds
turn_is c M operation cpu time b h o = rw (lt-leb c cpu h, le-ltb 3 operation (omega arith))

-- the lists of a machine that passed fit
short : {n : ℕ} {cs : List Context} (p : Cpu) → Stands n cs p → Short p
unfolding no_cpu
short p (absent e) = rw e (record { queue = omega arith; timers = omega arith; local = omega arith; ipi = omega arith })
short p (present o r) = record { queue = r.queue; timers = r.timers; local = r.local; ipi = r.ipi }

raised : {c n : ℕ} {b : Bounds} {M : Machine} → InRange b → Within c n b M → MachineRaised max_number c n M
raised {c} {n} {b} {M} r o =
    let t = r.times in
    let v = r.virtual_times in
    record {
      context = λ x h.
          let a = o.below.context x h in
          record { active_cpu_time = omega (arith, a.active_cpu_time); sched_cpu_time = omega (arith, a.sched_cpu_time); vtime = omega (arith, a.vtime); vd = omega (arith, a.vd); key_vd = omega (arith, a.key_vd) };
      cpu = λ k h.
          let a = o.below.cpu k h in
          record {
            pit_ticks = omega (arith, a.pit_ticks);
            published_weight = omega (arith, o.published k h);
            user = omega (arith, a.user);
            kernel = omega (arith, a.kernel);
            idle = omega (arith, a.idle);
            context_switches = omega (arith, a.context_switches);
            syscall_switches = omega (arith, a.syscall_switches);
            v = omega (arith, a.v);
            total_weight = omega (arith, a.total_weight);
            key_vd = all_of (λ (e : Entry). e.key.vd ≤ max_number) no_entry (cpu_at M k).queue (λ i l. omega (arith, a.entry_vd i l));
            vtime = all_of (λ (e : Entry). e.vtime ≤ max_number) no_entry (cpu_at M k).queue (λ i l. omega (arith, a.entry_vtime i l));
          };
    }

-- the image of a well-formed machine within bounds that are in range
known_by : {c n : ℕ} (b : Bounds) (m : List ℕ) (M : Machine) → m ≡ encode M → WellFormed c n M → InRange b → Within c n b M → Known c n b m
known_by {c} {n} b m M e W r o =
    let d : decode m ≡ M = ap decode e ∙ decode_encode M (λ k h. short (cpu_at M k) (W.cpu k (omega (arith, W.cpus)))) in
    record {
      passes = rw e (machine_passes c n M W 0 (omega arith) (raised r o));
      cpus = rw e (sym (cpus_are c n M W));
      contexts = rw e (sym (names_are c n M W));
      in_range = r;
      within = subst (Within c n b) (sym d) o;
    }

-- what knowing an image says
module _ {c n : ℕ} {b : Bounds} {m : List ℕ} (o : Known c n b m) where
  is_passed : Passed 0 m
  is_passed = passed 0 m o.passes

  formed : WellFormed c n (decode m)
  formed = rw (o.cpus, o.contexts) (well_formed m is_passed)

  pub known_eq : m ≡ encode (decode m)
  known_eq = decoded m is_passed

  pub known_fits : Fits c n (decode m)
  known_fits = rw (o.cpus, o.contexts) (decoded_fits m is_passed)

  pub known_image : Image c n m
  known_image = rw (o.cpus, o.contexts) (admitted m is_passed)

  pub known_ranged : Ranged c n max_number max_number m
  known_ranged = rw (o.cpus, o.contexts) (ranged m is_passed)

  -- it passes at every time that is in range
  pub known_passes : (time : ℕ) → time ≤ max_number → image_refusal time m ≡ 0
  known_passes time h =
      subst (λ (y : List ℕ). image_refusal time y ≡ 0) (sym known_eq) (machine_passes c n (decode m) formed time h (raised o.in_range o.within))

  module _ (operation cpu time context : ℕ) (soon : time ≤ max_number) where
    abbrev M : Machine
    M = decode m

    abbrev d : Bounds
    d = call_bounds c M operation cpu time b

    more : AtMost b d
    more = bounds_more c M operation cpu time b

    wider : (N : Machine) → Within c n b N → Within c n d N
    wider N r = within_more more.times more.virtual_times r

    -- an operation of 1 to 3
    turn_within : (call : Call) → operation < 4 → cpu < c → (cpu_at M cpu).block.present ≡ true → TargetFormed n M.contexts call → refusal call M cpu time ≡ 0
        → (outcome call cpu time M).no_room ≡ false → Within c n d (outcome call cpu time M).machine
    unfolding after_turn
    turn_within call i h p t z q =
        let e : ℕ = elapsed time (cpu_at M cpu) in
        let s : Bool = may_steal c (cpu_at M cpu).block in
        let l : (spent time (cpu_at M cpu)).ticks ≤ most_ticks e = few_ticks e (cpu_at M cpu).remainder (known_fits.cpu cpu h).remainder in
        let r = decision_grows c n M formed known_fits cpu time h p soon b.times b.virtual_times o.within (most_ticks e) s l (turn_told c cpu M h) call t q in
        subst (λ (y : Bounds). Within c n y (outcome call cpu time M).machine) (turn_is c M operation cpu time b h i)
        (subst (λ (y : ℕ). Within c n (after_turn b time y s) (outcome call cpu time M).machine) (sym (in_time call M cpu time z)) (within_more (omega arith) (enough e s) r))
      where
        enough : (e : ℕ) (s : Bool) → stolen_bound s (b.virtual_times + slice_bound + most_ticks e + slice_charge) + most_ticks e ≤ after_theft s (b.virtual_times + slices + most_ticks e) + most_ticks e
        enough e true = omega arith
        enough e false = omega arith

    pub record Left (N : Machine) : Type 0 where
      pub formed : WellFormed c n N
      pub within : Within c n d N

    promised : Promised Left c n M operation cpu time
    promised =
        record {
          on_decision = λ call i h p t z q. record { formed = decision_leaves c n M formed cpu time h p soon call t q; within = turn_within call i h p t z q };
          on_unblock = λ x h p l q. record { formed = unblock_leaves c n cpu x M formed h p l q; within = wider _ (unblock_within c n b cpu x M formed.cpus h l.below o.within) };
          on_drain = λ h p q. record { formed = drain_leaves c n M formed cpu h p q; within = wider _ (drain_within c n b cpu M h o.within) };
          on_block = λ s x l. record { formed = block_leaves c n M formed s x l; within = wider _ (block_within c n b s x M l.below o.within) };
        }

    pub stays_known : (a : Answer) (m' : List ℕ) → reply a m' ≡ operation_reply m M operation cpu time context → InRange d → Known c n d m'
    stays_known a m' e r = by (subst (λ (y : Reply). (y.image ≡ m) ⊎ StandsFor Left y.image) (sym e) (operation_leaves Left c n m M formed.cpus formed.contexts operation cpu time context promised))
      where
        by : (m' ≡ m) ⊎ StandsFor Left m' → Known c n d m'
        by (inl q) = subst (Known c n d) (sym q) (record { passes = o.passes; cpus = o.cpus; contexts = o.contexts; in_range = r; within = wider M o.within })
        by (inr q) = known_by d m' q.M q.is q.holds.formed r q.holds.within
