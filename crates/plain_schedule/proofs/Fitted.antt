-- The choice leaves every state in its ranges, and what grows within its bounds. Assumes nothing.
use Rattle.std.specs.Prelude.{None, Option, Some, is_some}
use mathlib.Core.Path.{◌≡◌, refl, sym, ◌∙◌, subst}
use mathlib.Core.List.{List, [], ◌∷◌, map}
use Prim.Native.Nat.{ℕ, zero, suc, ◌-◌, ◌<◌, ◌≤◌}
use lib.ListN.{length, set, take, length-set}
use Rattle.columns.specs.Common.{All}
use Rattle.context.specs.declared.Context.{Context}
use Rattle.context.specs.Key.{queue_key, without_key}
use Rattle.entries.specs.declared.Key.{Key}
use Rattle.entries.specs.declared.Entry.{Entry}
use Rattle.entries.specs.Order.{entry_before}
use Rattle.entries.specs.Queue.{keyed}
use Rattle.entries.proofs.Ordered.{entries_ordered}
use Rattle.percpu.specs.Cpu as percpu
use Rattle.percpu.specs.With.{block_v, block_total_weight, block_published_weight, cpu_v, cpu_block}
use Rattle.machine.specs.Machine.{context_at, no_context}
use Rattle.machine.specs.Shape.{ContextFits, EntryFits}
use Rattle.machine.proofs.Steps.{get_d_set}
use Rattle.model.specs.State.{State, at, put_context, on_cpu}
use Rattle.model.specs.Scan.{Scan, Visit, pass, gone, blocked, no_addr_space, ready, visit, visited, scan_step, scan_start, scan}
use Rattle.model.specs.Choice as kernel
use Rattle.model.specs.Choice.{ineligible_holder}
use Rattle.model.proofs.Cases.{pick}
use Rattle.model.proofs.Lists.{all_at, fold_keeps_in, fold_keeps}
use Rattle.select.specs.Scanning.{VisitFits}
use Rattle.select.proofs.Visiting.{fits_visit}
use Rattle.select.proofs.Bounded.{below_chosen}
use Rattle.stages.specs.Stage.{CpuBelow, StateBelow}
use Rattle.stages.specs.Bounds.{t_timed, b_charged}
use Rattle.plain_model.specs.Rank.{by_rank, Differ}
use Rattle.plain_model.specs.State.{queue_without, placed, placed_cpu}
use Rattle.plain_model.specs.Choice.{without_keys, cleaned_up, taken_out, chosen}
use Rattle.plain_model.specs.Schedule.{scanned, choice_of}
use Rattle.plain_model.proofs.Placing.{leave_out_differs}
use Rattle.plain_model.proofs.Chosen.{chosen_placed}
use Rattle.plain_model.proofs.Decided.{scanned_is, choice_of_is}
use Rattle.plain_lists.proofs.Listing.{length_items}
use Rattle.plain_state.specs.declared.Cpu.{Cpu}
use Rattle.plain_state.specs.States.{cpu_in, CpuSound}
use Rattle.plain_state.specs.Fits.{StateFits}
use Rattle.plain_state.proofs.Fitting.{all_left, all_placed, queue_fits, block_fits, block_changed, context_put, key_removed}
use Rattle.plain_steal.specs.declared.cpus.Cpus.{Cpus}
use Rattle.plain_steal.specs.Stealing.{cpus_in, CpusSound}
use Rattle.plain_steal.proofs.Bounded.{CpuRanged}
use Rattle.plain_schedule.specs.Next.{CpusReady}

-- the records after the scan
module _ (n : ℕ) where
  record Kept (cs : List Context) : Type 0 where
    size : length cs ≡ n
    each : (y : ℕ) → y < n → ContextFits 4 (context_at cs y)

  set_kept : (cs : List Context) (x : ℕ) (q : Context) → ContextFits 4 q → Kept cs → Kept (set cs x q)
  set_kept cs x q o h = record { size = length-set cs x q ∙ h.size; each = λ y l. get_d_set cs x y q no_context (ContextFits 4) o (h.each y l) }

  abbrev KeptScan : Scan → Type 0
  KeptScan s = Kept s.contexts

  module _ (k time : ℕ) (p : percpu.Cpu) (h : Option ℕ) where
    visited_fits : (s : Scan) (e : Entry) (v : Visit) → VisitFits 4 v → KeptScan s → KeptScan (visited k time p h s e v)
    unfolding visited
    visited_fits s e pass f o = o
    visited_fits s e gone f o = o
    visited_fits s e (blocked q) f o = set_kept s.contexts e.context_ref q f o
    visited_fits s e (no_addr_space q) f o = set_kept s.contexts e.context_ref q f o
    visited_fits s e (ready q) f o = set_kept s.contexts e.context_ref q f o

    step_fits : (s : Scan) (e : Entry) → EntryFits n e → KeptScan s → KeptScan (scan_step k time p h s e)
    unfolding scan_step
    step_fits s e l o =
        pick KeptScan (is_some s.eligible_best) (λ z. o) (λ z. visited_fits s e (visit k time p h s e) (fits_visit 4 k time p h s e (o.each e.context_ref l.name)) o)

    scan_fits : (cs : List Context) (q : List Entry) → Kept cs → All (EntryFits n) q → KeptScan (scan k time p h cs q)
    unfolding scan
    scan_fits cs q o a = fold_keeps_in KeptScan (scan_step k time p h) q (λ s e i z. step_fits s e (all_at (EntryFits n) q a e i) z) (scan_start k time p h cs) o

module _ {n : ℕ} (k time : ℕ) (s : State) (f : StateFits n s) where
  scanned_kept : Kept n (scanned k time s).contexts
  scanned_kept =
      subst (λ (z : Scan). Kept n z.contexts) (sym (scanned_is k time s))
      (scan_fits n k time (placed s).cpu (ineligible_holder (placed s)) s.contexts (by_rank entry_before s.cpu.queue) (record { size = f.contexts; each = f.context })
      (all_placed (EntryFits n) entries_ordered s.cpu.queue f.cpu.entries))

  -- what leaves the queue
  record Queued (q : List Entry) : Type 0 where
    fit : All (EntryFits n) q
    differ : Differ entry_before q

  left_queued : (ks : List Key) → Queued (without_keys s.cpu.queue ks)
  left_queued ks =
      fold_keeps Queued (λ (l : List Entry) (k : Key). queue_without k l)
      (λ q k o. record { fit = all_left (EntryFits n) entry_before (keyed k) q o.fit; differ = leave_out_differs entries_ordered (keyed k) q o.differ }) s.cpu.queue ks
      (record { fit = f.cpu.entries; differ = f.cpu.differ.queue })

  cleaned_fits : (w : Scan) → Kept n w.contexts → StateFits n (cleaned_up w s)
  unfolding cleaned_up
  cleaned_fits w o =
      let left : ℕ = s.cpu.block.total_weight - w.weight_change in
      let q : Queued (without_keys s.cpu.queue w.contexts_to_remove) = left_queued w.contexts_to_remove in
      record {
        contexts = o.size;
        context = o.each;
        cpu = queue_fits (cpu_block (block_total_weight left (block_published_weight left s.cpu.block)) s.cpu)
            (block_fits s.cpu f.cpu (block_total_weight left (block_published_weight left s.cpu.block)) (record { current = f.cpu.current; sched = f.cpu.sched; idle = f.cpu.idle }))
            _ (without_keys s.cpu.queue w.contexts_to_remove) q.fit q.differ;
      }

v_fits : {n : ℕ} (v : ℕ) (s : State) → StateFits n s → StateFits n (on_cpu (cpu_v v) s)
v_fits v s f = block_changed s f (block_v v s.cpu.block) (record { current = f.cpu.current; sched = f.cpu.sched; idle = f.cpu.idle })

taken_fits : {n : ℕ} (o : Option ℕ) (s : State) → ((x : ℕ) → o ≡ Some x → x < n) → StateFits n s → StateFits n (taken_out o s)
taken_fits None s h f = f
taken_fits {n} (Some x) s h f =
    let o : ContextFits 4 (at s x) = f.context x (h x refl) in
    pick (StateFits n) (at s x).has_queue_key
    (λ e. key_removed (put_context x (without_key (at s x)) s) (context_put s f x (without_key (at s x)) (record { cpu_id = o.cpu_id; prio = o.prio; rem_slice = o.rem_slice })) (queue_key (at s x)))
    (λ e. f)

-- the scan, the choice and what leaves the queue
module _ {n : ℕ} (k time : ℕ) (s : State) (f : StateFits n s) where
  pub chosen_fits : ((x : ℕ) → (choice_of k time s).winner ≡ Some x → x < n) → StateFits n (chosen (choice_of k time s) (scanned k time s) s)
  unfolding chosen
  chosen_fits h =
      taken_fits (choice_of k time s).winner (on_cpu (cpu_v (choice_of k time s).v) (cleaned_up (scanned k time s) s)) h
      (v_fits (choice_of k time s).v (cleaned_up (scanned k time s) s) (cleaned_fits k time s f (scanned k time s) (scanned_kept k time s f)))

  pub chosen_below : {t b : ℕ} → StateBelow n t b (placed s) → StateBelow n t b (placed (chosen (choice_of k time s) (scanned k time s) s))
  chosen_below {t} {b} o =
      subst (StateBelow n t b)
      (sym ((chosen_placed (choice_of k time s) (scanned k time s) s f.cpu.differ).is ∙ (λ i. kernel.chosen (sym (choice_of_is k time s) i) (scanned_is k time s i) (placed s))))
      (below_chosen n t b k time (placed s) f.cpu.sched o)

-- the CPUs that may be robbed have queues of at most 64 entries
all_ranged : (c : ℕ) (l : List Cpu) → All CpuSound l → All (λ (p : percpu.Cpu). CpuBelow t_timed b_charged (placed_cpu p)) (map cpu_in (take c l))
    → All (CpuRanged t_timed b_charged) (map cpu_in (take c l))
all_ranged zero l a b = tt
all_ranged (suc c) [] a b = tt
all_ranged (suc c) (p ∷ l) a b =
    let z : p.queue.len ≤ 64 = a.0.queue.used in
    (record { below = b.0; few = rw (length_items p.queue a.0.queue) z }, all_ranged c l a.1 b.1)

pub cpus_ranged : {n c : ℕ} (x : Cpus) → CpusSound c x → CpusReady n (cpus_in c x) → All (CpuRanged t_timed b_charged) (cpus_in c x)
cpus_ranged {c = c} x o r = all_ranged c x.cpus o.each r.below
