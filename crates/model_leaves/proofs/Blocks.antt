-- The blocks of a well-formed machine are in their ranges, where no raised word is over `top`. Assumes nothing.
use mathlib.Core.Path.{◌≡◌, refl, ap, ◌∙◌}
use mathlib.Core.Bool.{true}
use mathlib.Core.List.{List, [], ◌∷◌, ◌++◌, map}
use Prim.Native.Nat.{ℕ, ◌+◌, ◌-◌, ◌*◌, ◌<◌, ◌≤◌}
use native.Mathlib.Omega.{arith}
use lib.ListN.{length, get_or, length-map}
use borrow.Author.Tests.{le-leb}
use Rattle.columns.specs.Common.{every, All}
use Rattle.columns.specs.Columns.{pad}
use Rattle.columns.specs.Blocks.{flat, part, cat, col_part}
use Rattle.cpu_stats.specs.State.{state_of}
use Rattle.cpu_stats.specs.Words.{stats_words, stats_of}
use Rattle.context.specs.declared.Context.{Context}
use Rattle.entries.specs.declared.Entry.{Entry}
use Rattle.entries.specs.declared.Timer.{Timer}
use Rattle.percpu.specs.declared.PercpuBlock.{PercpuBlock}
use Rattle.percpu.specs.Cpu.{Cpu}
use Rattle.percpu.specs.Words.{block_words, block_of}
use Rattle.percpu.specs.Layout.{counts, columns, last_words, cpu_words, counter, front_length}
use Rattle.percpu.proofs.Read.{remainder_is}
use Rattle.machine.specs.Machine.{context_at, no_cpu}
use Rattle.image_ranges.specs.Ranges.{within, zero_words, block_most_to, array_least, array_most_to, array_in_range_to, block_in_range_to}
use Rattle.model.proofs.Lists.{all_at, all_in, all_map}
use Rattle.model_leaves.proofs.WellFormed.{EntryFormed, TimerFormed, NamesFormed, view, CpuFormed, Room, Stands, absent, present}
use Rattle.model_leaves.proofs.Words.{present_word, mark_most, state_most, within_front, used_all, unused_rest}
use Rattle.numbers.specs.Limits.{max_id, max_number}
use Rattle.ticks.specs.Ticks.{max_remainder}
use Rattle.weights.specs.Weights.{full_slice, max_weight}

-- what a call can raise of a CPU: of its block and its queue
pub record CpuRaised (top : ℕ) (b : PercpuBlock) (q : List Entry) : Type 0 where
  pub pit_ticks : b.pit_ticks ≤ top
  pub published_weight : b.published_weight ≤ top
  pub user : b.stats.user ≤ top
  pub kernel : b.stats.kernel ≤ top
  pub idle : b.stats.idle ≤ top
  pub context_switches : b.stats.context_switches ≤ top
  pub syscall_switches : b.stats.syscall_switches ≤ top
  pub v : b.v ≤ top
  pub total_weight : b.total_weight ≤ top
  pub key_vd : All (λ (e : Entry). e.key.vd ≤ top) q
  pub vtime : All (λ (e : Entry). e.vtime ≤ top) q

absent_in_range : (top n : ℕ) → block_in_range_to top n (cpu_words no_cpu) ≡ true
unfolding block_in_range_to zero_words every cpu_words block_words stats_words counts columns flat cat pad no_cpu block_of stats_of state_of part
absent_in_range top n = refl

mapped : {A : Type 0} (P : ℕ → Type 0) (f : A → ℕ) (l : List A) → All (λ (a : A). P (f a)) l → All P (map f l)
mapped P f [] a = tt
mapped P f (x ∷ xs) a = (a.0, mapped P f xs a.1)

module _ (top n : ℕ) (cs : List Context) (p : Cpu) (o : CpuFormed n cs (view p)) (r : Room (view p).lists) (u : CpuRaised top p.block p.queue)
    (ids : (x : ℕ) → x < n → (context_at cs x).debug_id ≤ max_id) (some : 1 ≤ n) where
  scalars_within : within (block_most_to top n) (cpu_words p) 25 ≡ true
  unfolding cpu_words block_words stats_words counts block_most_to
  scalars_within =
      let s = o.scalars in
      let b = p.block in
      let name : (x : ℕ) → x < n → x ≤ n - 1 = λ x h. omega arith in
      within_front (block_words b ++ counts p) (flat (columns p) ++ last_words p) (block_most_to top n) (
        mark_most b.present,
        (
          name _ s.current.below,
          (
            name _ s.sched.below,
            (
              name _ s.idle.below,
              (
                s.schedule_time,
                (
                  u.pit_ticks,
                  (
                    mark_most b.being_sigkilled,
                    (
                      mark_most b.inside_syscall,
                      (
                        mark_most b.stealable,
                        (
                          r.queue_len,
                          (
                            u.published_weight,
                            (
                              s.steal_counter,
                              (
                                state_most b.stats.state,
                                (
                                  u.user,
                                  (
                                    u.kernel,
                                    (
                                      u.idle,
                                      (u.context_switches, (u.syscall_switches, (mark_most b.queue_locked, (u.v, (u.total_weight, (r.queue, (r.timers, (r.local, (r.ipi, tt))))))))),
                                    ),
                                  ),
                                ),
                              ),
                            ),
                          ),
                        ),
                      ),
                    ),
                  ),
                ),
              ),
            ),
          ),
        ),
      )

  column : (j : ℕ) → j < 10 → part (cpu_words p) (25 + 64 * j) 64 ≡ pad 64 (get_or (columns p) j [])
  unfolding cpu_words columns
  column j b = col_part (block_words p.block ++ counts p) (last_words p) (columns p) 25 j (front_length p) b

  -- array j holds the list l
  array_of : (j low high : ℕ) (l : List ℕ) → j < 10 → get_or (columns p) j [] ≡ l → get_or (cpu_words p) (get_or counter j 0) 0 ≡ length l → get_or array_least j 0 ≡ low
      → get_or (array_most_to top n) j 0 ≡ high → length l ≤ 64 → All (λ (x : ℕ). (low ≤ x) × (x ≤ high)) l → array_in_range_to top n (cpu_words p) j ≡ true
  unfolding array_in_range_to
  array_of j low high l b e k f g m a = rw (column j b ∙ ap (pad 64) e, k, f, g, used_all l low high m a, unused_rest l low high m a)

  -- it holds a projection of the entries, or of the timers
  items : {A : Type 0} (P : A → Type 0) (q : List A) (f : A → ℕ) (j low high : ℕ) → j < 10 → get_or (columns p) j [] ≡ map f q → get_or (cpu_words p) (get_or counter j 0) 0 ≡ length q
      → get_or array_least j 0 ≡ low → get_or (array_most_to top n) j 0 ≡ high → length q ≤ 64 → All P q → ((a : A) → P a → (low ≤ f a) × (f a ≤ high)) → array_in_range_to top n (cpu_words p) j ≡ true
  items P q f j low high b e k g h m a t =
      array_of j low high (map f q) b e (rw (length-map q f) k) g h (rw (length-map q f) m)
      (mapped (λ (x : ℕ). (low ≤ x) × (x ≤ high)) f q (all_map P (λ y. (low ≤ f y) × (f y ≤ high)) t q a))

  record EntryIn (e : Entry) : Type 0 where
    formed : EntryFormed n cs e
    key_vd : e.key.vd ≤ top
    vtime : e.vtime ≤ top

  entries : All EntryIn p.queue
  entries =
      all_in EntryIn p.queue
      (λ e i.
      record {
        formed = all_at (EntryFormed n cs) p.queue o.lists.queue.each e i;
        key_vd = all_at (λ (e : Entry). e.key.vd ≤ top) p.queue u.key_vd e i;
        vtime = all_at (λ (e : Entry). e.vtime ≤ top) p.queue u.vtime e i;
      })

  entry_array : (f : Entry → ℕ) (j low high : ℕ) → j < 10 → get_or (columns p) j [] ≡ map f p.queue → get_or (cpu_words p) (get_or counter j 0) 0 ≡ length p.queue
      → get_or array_least j 0 ≡ low → get_or (array_most_to top n) j 0 ≡ high → ((e : Entry) → EntryIn e → (low ≤ f e) × (f e ≤ high)) → array_in_range_to top n (cpu_words p) j ≡ true
  entry_array f j low high b e k g h t = items EntryIn p.queue f j low high b e k g h r.queue entries t

  timer_array : (f : Timer → ℕ) (j high : ℕ) → j < 10 → get_or (columns p) j [] ≡ map f p.timers → get_or (cpu_words p) (get_or counter j 0) 0 ≡ length p.timers
      → get_or array_least j 0 ≡ 0 → get_or (array_most_to top n) j 0 ≡ high → ((t : Timer) → TimerFormed n t → (0 ≤ f t) × (f t ≤ high)) → array_in_range_to top n (cpu_words p) j ≡ true
  timer_array f j high b e k g h t = items (TimerFormed n) p.timers f j 0 high b e k g h r.timers o.lists.timers.each t

  name_array : (l : List ℕ) (j : ℕ) → j < 10 → get_or (columns p) j [] ≡ l → get_or (cpu_words p) (get_or counter j 0) 0 ≡ length l → get_or array_least j 0 ≡ 0
      → get_or (array_most_to top n) j 0 ≡ n - 1 → length l ≤ 64 → NamesFormed n l → array_in_range_to top n (cpu_words p) j ≡ true
  name_array l j b e k g h m a = array_of j 0 (n - 1) l b e k g h m (all_map (λ (x : ℕ). x < n) (λ (x : ℕ). (0 ≤ x) × (x ≤ n - 1)) (λ x y. (omega arith, omega arith)) l a)

  arrays_in_range : every (array_in_range_to top n (cpu_words p)) 10 ≡ true
  unfolding every columns counter array_least array_most_to cpu_words block_words stats_words counts
  arrays_in_range =
      rw (
        entry_array (λ (e : Entry). e.key.vd) 0 0 top (omega arith) refl refl refl refl (λ e h. (omega arith, h.key_vd)),
        entry_array (λ (e : Entry). e.key.rem_slice) 1 0 full_slice (omega arith) refl refl refl refl (λ e h. (omega arith, h.formed.rem_slice)),
        entry_array (λ (e : Entry). e.key.ctxt_id) 2 0 max_id (omega arith) refl refl refl refl (λ e h. (omega arith, omega (arith, h.formed.id, ids e.context_ref h.formed.name))),
        entry_array (λ (e : Entry). e.vtime) 3 0 top (omega arith) refl refl refl refl (λ e h. (omega arith, h.vtime)),
        entry_array (λ (e : Entry). e.weight) 4 15 max_weight (omega arith) refl refl refl refl (λ e h. (h.formed.heavy, h.formed.light)),
        entry_array (λ (e : Entry). e.context_ref) 5 0 (n - 1) (omega arith) refl refl refl refl (λ e h. (omega arith, omega (arith, h.formed.name))),
        timer_array (λ (t : Timer). t.wake) 6 max_number (omega arith) refl refl refl refl (λ t h. (omega arith, h.wake)),
        timer_array (λ (t : Timer). t.context_ref) 7 (n - 1) (omega arith) refl refl refl refl (λ t h. (omega arith, omega (arith, h.name))),
        name_array p.local_wakeup_list 8 (omega arith) refl refl refl refl r.local o.lists.local,
        name_array p.ipi_context_wakeup_list 9 (omega arith) refl refl refl refl r.ipi o.lists.ipi,
      )

  present_in_range : block_in_range_to top n (cpu_words p) ≡ true
  unfolding block_in_range_to
  present_in_range = rw (present_word p o.scalars.present, scalars_within, remainder_is p, le-leb p.remainder max_remainder o.scalars.remainder, arrays_in_range)

pub stands_in_range : (top n : ℕ) (cs : List Context) (p : Cpu) → Stands n cs p → CpuRaised top p.block p.queue → ((x : ℕ) → x < n → (context_at cs x).debug_id ≤ max_id) → 1 ≤ n
    → block_in_range_to top n (cpu_words p) ≡ true
stands_in_range top n cs p (absent e) u ids s = rw e (absent_in_range top n)
stands_in_range top n cs p (present o r) u ids s = present_in_range top n cs p o r u ids s
