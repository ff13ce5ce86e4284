-- `switch_inner` from its parts. Assumes nothing.
use Rattle.std.specs.Prelude.{None, Option, Some, is_some}
use mathlib.Core.Path.{◌≡◌, refl, sym, ap, ◌∙◌, subst}
use mathlib.Core.Logic.{◌≢◌}
use mathlib.Core.Bool.{Bool, true, false}
use mathlib.Core.List.{List}
use Prim.Native.Nat.{ℕ, ◌<◌}
use native.Mathlib.Omega.{arith}
use lib.Dec.{eqb}
use borrow.Author.Tests.{eq-eqb, ne_eqb}
use Rattle.cpu_stats.specs.declared.CpuState.TheVariants.{Idle}
use Rattle.cpu_stats.specs.declared.CpuStats.{CpuStats}
use Rattle.cpu_stats.specs.With.{stats_state}
use Rattle.percpu.specs.declared.PercpuBlock.{PercpuBlock}
use Rattle.percpu.specs.Cpu.{Cpu}
use Rattle.percpu.specs.With.{block_stats, cpu_block, cpu_stats}
use Rattle.machine.specs.Machine.{Machine, cpu_at}
use Rattle.machine.specs.Encode.{encode}
use Rattle.machine.specs.Shape.{Fits, Image}
use Rattle.machine.specs.Outcome.{Outcome}
use Rattle.model.specs.State.{State, state_of}
use Rattle.model.specs.SwitchTo.{switch_to, try_direct_switch_back}
use Rattle.model.specs.Schedule.{finish_by, finish, schedule, switch_as, after_schedule, switch_inner_by, switch_inner}
use Rattle.model.proofs.Cases.{pick}
use Rattle.model.proofs.NoRoom.{switch_to_full}
use Rattle.stages.specs.Stage.{Stage, Staged, Ranged}
use Rattle.stages.specs.Read.{BlockFits}
use Rattle.stages.proofs.Compose.{stage_as}
use Rattle.stages.proofs.Reading.{unchanged}
use Rattle.stages.proofs.Kept.{ranged_more}
use Rattle.switch_to.specs.Direct.{or_same}
use Rattle.schedule.specs.Begun.{CanBegin}
use Rattle.schedule.specs.Part.{Ruled, ruled, of_scheduled, Part}
use Rattle.schedule.specs.Decides.{Told, told, undecided, Ends}
use Rattle.schedule.specs.Switched.{marked_idle, switched_to, switched, switch_result}
use Rattle.columns.proofs.Tests.{never}
use Rattle.schedule.proofs.Parts.{part_stage}
use Rattle.schedule.proofs.Start.{counting_ranged}
use Rattle.schedule.proofs.Ending.{part_ends, no_end, stage_end, ends_as, none_is, same_image}
use Rattle.stages.specs.Bounds.{t_handed, b_advanced}
use Rattle.answer.specs.Number.{result_number, rule_number}

-- the CPU marked Idle: b was loaded, and is stored with the statistics t
pub idle_as : (p : Cpu) (b : PercpuBlock) (t : CpuStats) → b ≡ p.block → t ≡ stats_state Idle b.stats → cpu_block (block_stats t b) p ≡ cpu_stats (stats_state Idle p.block.stats) p
idle_as p b t h e =
    ap (λ (x : PercpuBlock). cpu_block x p) (ap (λ (y : CpuStats). block_stats y b) e ∙ ap (λ (x : PercpuBlock). block_stats (stats_state Idle x.stats) x) h)

pub idle_fits : {n : ℕ} (b : PercpuBlock) (t : CpuStats) → BlockFits n b → BlockFits n (block_stats t b)
idle_fits b t o = record { current = o.current; sched = o.sched; idle = o.idle }

-- x is current already, or is switched to; b: the block
module _ {c n : ℕ} {m : List ℕ} (k time x : ℕ) (b : PercpuBlock) (hb : (M : Machine) → m ≡ encode M → Fits c n M → b ≡ (cpu_at M k).block) where
  pub current_is : (v : Bool) → eqb b.current_ctxt x ≡ v → (M : Machine) → m ≡ encode M → Fits c n M → eqb (cpu_at M k).block.current_ctxt x ≡ v
  current_is v z M e o = rw (hb M e o) at z

  pub stays_current : b.current_ctxt ≡ x → Image c n m → Staged c n k m m false (λ (s : State). switched_to k time x s)
  stays_current z i = unchanged k (λ (s : State). switched_to k time x s) i (λ M e o. rw (current_is true (eq-eqb _ _ z) M e o))

  pub leaves_current : {m' : List ℕ} {full : Bool} → b.current_ctxt ≢ x → Staged c n k m m' full (λ (s : State). switch_to k time x s) → Staged c n k m m' full (λ (s : State). switched_to k time x s)
  leaves_current z t = stage_as t (λ M e o. (rw (current_is false (ne_eqb _ _ z) M e o), λ f g. refl))

-- the switch, by who was picked
module _ {c n k : ℕ} {m m' : List ℕ} (time : ℕ) {w : Option ℕ} where
  pub as_nobody : {u : ℕ} → w ≡ None → Staged c n k m m' false (λ (s : State). marked_idle s) → Stage c n k m m' false (told 2 u) (λ (s : State). switched k time w s) (λ (s : State). told (result_number (switch_result w)) u)
  unfolding switched switch_result
  as_nobody e t = rw e (stage_as t (λ M z o. (refl, λ f g. refl)))

  pub as_somebody : {u : ℕ} {full : Bool} (x : ℕ) → w ≡ Some x → Staged c n k m m' full (λ (s : State). switched_to k time x s)
      → Stage c n k m m' full (told 1 u) (λ (s : State). switched k time w s) (λ (s : State). told (result_number (switch_result w)) u)
  unfolding switched switch_result
  as_somebody x e t = rw e (stage_as t (λ M z o. (refl, λ f g. refl)))

  pub as_full : {u : ℕ} {r : Told} (x : ℕ) → w ≡ Some x → Staged c n k m m' true (λ (s : State). switched_to k time x s)
      → Stage c n k m m' true r (λ (s : State). switched k time w s) (λ (s : State). told (result_number (switch_result w)) u)
  unfolding switched switch_result
  as_full x e t = rw e (stage_as t (λ M z o. (refl, λ f g. never f)))

-- `after_schedule` by its parts, and where there is no room
module _ (k time : ℕ) where
  switch_is : (u : ℕ) (cpus : List Cpu) (o : Option ℕ) (s : State) → finish_by u k cpus (result_number (switch_result o)) (switched k time o s) ≡ switch_as k time u s cpus o
  unfolding switch_as switched switch_result
  switch_is u cpus None s = refl
  switch_is u cpus (Some x) s = refl

  ends_full : (u : ℕ) (cpus : List Cpu) (o : Option ℕ) (s : State) → s.no_room ≡ true → ((switch_as k time u s cpus o).no_room ≡ true) × ((switch_as k time u s cpus o).interrupt ≡ false)
  unfolding switch_as
  ends_full u cpus None s h = (h, refl)
  ends_full u cpus (Some x) s h = (pick (λ (u : State). u.no_room ≡ true) (eqb s.cpu.block.current_ctxt x) (λ t. h) (λ t. switch_to_full k time x s h), refl)

module _ {c n k : ℕ} {m m' : List ℕ} (time : ℕ) {w : Ruled} where
  pub decided_full : {m'' : List ℕ} {r : Told} → Part c n k m m' true w (λ (cpus : List Cpu) (s : State). of_scheduled (schedule k time cpus s))
      → Ends c n k m m'' true r (λ (cpus : List Cpu) (s : State). after_schedule k time (schedule k time cpus s))
  unfolding after_schedule
  decided_full t =
      no_end
      (λ M e o cpus z.
      let d = schedule k time cpus (state_of k M)
      in ends_full k time (rule_number d.rule) d.cpus d.picked d.state (sym (t.part M e o cpus z).room))

  pub decided : {m'' : List ℕ} {full : Bool} {r : Told} {v : ℕ} → v ≡ rule_number w.rule → k < c → Part c n k m m' false w (λ (cpus : List Cpu) (s : State). of_scheduled (schedule k time cpus s))
      → Stage c n k m' m'' full r (λ (s : State). switched k time w.who s) (λ (s : State). told (result_number (switch_result w.who)) v)
      → Ends c n k m m'' full r (λ (cpus : List Cpu) (s : State). after_schedule k time (schedule k time cpus s))
  unfolding after_schedule
  decided hv h t u =
      part_ends (part_stage h t u)
      (λ M e o cpus z.
      let d = schedule k time cpus (state_of k M)
      in let y : w ≡ ruled d.picked d.rule = (t.part M e o cpus z).answer refl
      in (λ i. finish_by ((hv ∙ ap (λ (x : Ruled). rule_number x.rule) y) i) k d.cpus (result_number (switch_result (y i).who)) (switched k time (y i).who d.state))
      ∙ switch_is k time (rule_number d.rule) d.cpus d.picked d.state)

-- a stage that makes the direct switch d, or changes nothing; q: whether it was made
abbrev pub Directs : (c n k : ℕ) (m m' : List ℕ) (full q : Bool) → (State → Option State) → Type 0
Directs c n k m m' full q d = Stage c n k m m' full q (λ (s : State). or_same s (d s)) (λ (s : State). is_some (d s))

-- a direct switch d, or the rest of the call where none is made
module _ (k : ℕ) (d : State → Option State) (by : List Cpu → State → Option State → Outcome) (hs : (cpus : List Cpu) (s s' : State) → finish k cpus 1 s' ≡ by cpus s (Some s')) where
  some_is : (cpus : List Cpu) (s : State) (o : Option State) → true ≡ is_some o → finish k cpus 1 (or_same s o) ≡ by cpus s o
  some_is cpus s (Some x) e = hs cpus s x
  some_is cpus s None e = never e

  pub direct_made : {c n : ℕ} {m m' : List ℕ} → Directs c n k m m' false true d → Ends c n k m m' false (undecided 1) (λ (cpus : List Cpu) (s : State). by cpus s (d s))
  direct_made t = ends_as (stage_end 1 t) (λ M e o cpus. some_is cpus (state_of k M) (d (state_of k M)) ((t.stage M e o).answer refl))

  -- a state with room that has none after was switched from
  full_is : (cpus : List Cpu) (s : State) (o : Option State) → s.no_room ≡ false → true ≡ (or_same s o).no_room → ((by cpus s o).no_room ≡ true) × ((by cpus s o).interrupt ≡ false)
  full_is cpus s None h e = never (e ∙ h)
  full_is cpus s (Some x) h e = (sym (ap (λ (o : Outcome). o.no_room) (hs cpus s x)) ∙ sym e, sym (ap (λ (o : Outcome). o.interrupt) (hs cpus s x)))

  pub direct_full : {c n : ℕ} {m m' : List ℕ} {q : Bool} {r : Told} → Directs c n k m m' true q d → Ends c n k m m' true r (λ (cpus : List Cpu) (s : State). by cpus s (d s))
  direct_full t = no_end (λ M e o cpus z. full_is cpus (state_of k M) (d (state_of k M)) refl (t.stage M e o).room)

  pub direct_not : {c n : ℕ} {m m' m'' : List ℕ} {full : Bool} {r : Told} (rest : List Cpu → State → Outcome) → ((cpus : List Cpu) (s : State) → rest cpus s ≡ by cpus s None)
      → Directs c n k m m' false false d → Image c n m → Ends c n k m' m'' full r rest → Ends c n k m m'' full r (λ (cpus : List Cpu) (s : State). by cpus s (d s))
  direct_not {c} {n} {m'' = m''} {full = full} {r = r} rest hn t i u =
      ends_as (subst (λ (x : List ℕ). Ends c n k x m'' full r rest) (same_image d t i) u)
      (λ M e o cpus. hn cpus (state_of k M) ∙ ap (by cpus (state_of k M)) (none_is (d (state_of k M)) ((t.stage M e o).answer refl)))

-- the direct switch back, or the decision
pub back_ranged : {c n k : ℕ} {m : List ℕ} (time : ℕ) → CanBegin c n k time m → Ranged c n t_handed b_advanced m
back_ranged time a = ranged_more (omega arith) (omega arith) (counting_ranged a)

module _ {c n k : ℕ} {m m' : List ℕ} (time : ℕ) where
  pub switched_back : Directs c n k m m' false true (try_direct_switch_back k time) → Ends c n k m m' false (undecided 1) (λ (cpus : List Cpu) (s : State). switch_inner k time cpus s)
  unfolding switch_inner switch_inner_by
  switched_back t = direct_made k (try_direct_switch_back k time) (switch_inner_by k time) (λ cpus s x. refl) t

  pub no_room_back : {q : Bool} {r : Told} → Directs c n k m m' true q (try_direct_switch_back k time) → Ends c n k m m' true r (λ (cpus : List Cpu) (s : State). switch_inner k time cpus s)
  unfolding switch_inner switch_inner_by
  no_room_back t = direct_full k (try_direct_switch_back k time) (switch_inner_by k time) (λ cpus s x. refl) t

  pub not_back : {m'' : List ℕ} {full : Bool} {r : Told} → Directs c n k m m' false false (try_direct_switch_back k time) → Image c n m → Ends c n k m' m'' full r (λ (cpus : List Cpu) (s : State). after_schedule k time (schedule k time cpus s))
      → Ends c n k m m'' full r (λ (cpus : List Cpu) (s : State). switch_inner k time cpus s)
  unfolding switch_inner switch_inner_by
  not_back t i u =
      direct_not k (try_direct_switch_back k time) (switch_inner_by k time) (λ cpus s x. refl) (λ (cpus : List Cpu) (s : State). after_schedule k time (schedule k time cpus s)) (λ cpus s. refl) t i u

-- what the code said of the direct switch
pub direct_is : {c n k : ℕ} {m m' : List ℕ} {f : State → State} {g : State → Bool} {made made' : Bool} → made ≡ made' → Stage c n k m m' false made f g → Stage c n k m m' false made' f g
direct_is {c} {n} {k} {m} {m'} {f} {g} e t = subst (λ (x : Bool). Stage c n k m m' false x f g) e t

pub begin_again : {c n k : ℕ} {m m' : List ℕ} (time : ℕ) (d : State → Option State) → Directs c n k m m' false false d → Image c n m
    → CanBegin c n k time m → CanBegin c n k time m'
begin_again {c} {n} {k} time d t i a = subst (CanBegin c n k time) (sym (same_image d t i)) a
