-- The image of a well-formed machine has the structure that refusal 4 asks for. Assumes nothing.
use mathlib.Core.Path.{◌≡◌, refl, sym, ap, ◌∙◌}
use mathlib.Core.Bool.{true, false}
use mathlib.Core.List.{List}
use Prim.Native.Nat.{ℕ, ◌+◌, ◌-◌, ◌<◌}
use native.Mathlib.Omega.{arith}
use native.Mathlib.Nat.{add-zero}
use lib.Dec.{eqb}
use lib.ListN.{length, get_or}
use borrow.Author.Tests.{eq-eqb, ne_eqb}
use Rattle.columns.specs.Common.{mark}
use Rattle.columns.specs.Blocks.{part}
use Rattle.columns.proofs.Tabulate.{part_get}
use Rattle.cpu_stats.specs.Words.{stats_words}
use Rattle.context.specs.Words.{context_words, record_size}
use Rattle.entries.specs.declared.Entry.{Entry}
use Rattle.entries.specs.Order.{entry_before, sooner}
use Rattle.percpu.specs.Cpu.{Cpu}
use Rattle.percpu.specs.Words.{block_words, block_of}
use Rattle.percpu.specs.Layout.{cpu_words, counts, entry_at, no_entry, no_timer}
use Rattle.percpu.proofs.Read.{entry_is, timer_is}
use Rattle.table.proofs.Rising.{rises}
use Rattle.machine.specs.Machine.{Machine, context_at, cpu_at, no_context, no_cpu}
use Rattle.machine.specs.Encode.{encode, context_place, cpu_place}
use Rattle.machine.proofs.Places.{context_part, cpu_part}
use Rattle.image_structure.specs.Structure.{id_of, is_live, is_new, ids_differ, names_live, entry_ids, keys_rise, timers_rise, block_structure, structure}
use Rattle.stages.proofs.Fitting.{of_all}
use Rattle.model_leaves.proofs.WellFormed.{LiveName, EntryFormed, view, CpuFormed, Room, Stands, absent, present, WellFormed}
use Rattle.model_timers.specs.Timers.{Alone}
use Rattle.model_leaves.proofs.Words.{every_of, present_word}
use Rattle.model_leaves.proofs.TimersAlone.{words_differ}
use Rattle.percpu.specs.Places.{block_size, entry_context_ref_column, key_ctxt_id_column}

module _ (c n : ℕ) (M : Machine) (W : WellFormed c n M) where
  abbrev m : List ℕ
  m = encode M

  -- where a record and a block stand
  pub record_is : (x : ℕ) → x < n → part m (context_place x) record_size ≡ context_words (context_at M.contexts x)
  record_is x h = context_part M x no_context (omega (arith, W.contexts))

  pub block_is : (k : ℕ) → k < c → part m (cpu_place n k) block_size ≡ cpu_words (cpu_at M k)
  block_is k h = rw (← W.contexts) (cpu_part M k (omega (arith, W.cpus)))

  -- a word of a record
  word : (x i : ℕ) → x < n → i < record_size → get_or m (context_place x + i) 0 ≡ get_or (context_words (context_at M.contexts x)) i 0
  word x i h l = sym (part_get m (context_place x) record_size i l) ∙ ap (λ (w : List ℕ). get_or w i 0) (record_is x h)

  id_is : (x : ℕ) → x < n → id_of m x ≡ (context_at M.contexts x).debug_id
  unfolding id_of context_words
  id_is x h = word x 1 h (omega arith)

  live_is : (x : ℕ) → LiveName n M.contexts x → is_live m x ≡ true
  unfolding is_live context_words
  live_is x a =
      let z : get_or m (context_place x) 0 ≡ mark (context_at M.contexts x).gone = rw (← add-zero (context_place x)) (word x 0 a.below (omega arith)) in
      eq-eqb _ 0 (z ∙ ap mark a.live)

  new_is : (y : ℕ) → y < n → is_new m y ≡ true
  unfolding is_new
  new_is y h =
      every_of _ y
      (λ x l.
      let g : x < n = omega arith in
      let e : eqb (id_of m x) (id_of m y) ≡ false = ne_eqb (id_of m x) (id_of m y) (λ z. let s = W.ids_differ x y g h (sym (id_is x g) ∙ z ∙ id_is y h) in omega arith) in
      rw e)

  -- a present CPU
  module _ (p : Cpu) (o : CpuFormed n M.contexts (view p)) (r : Room (view p).lists) (a : Alone p.timers) where
    abbrev b : List ℕ
    b = cpu_words p

    names : names_live m b ≡ true
    unfolding names_live cpu_words block_words stats_words
    names = rw (live_is p.block.current_ctxt o.scalars.current, live_is p.block.sched_ctxt o.scalars.sched, live_is p.block.idle_ctxt o.scalars.idle)

    queue_count : get_or b 21 0 ≡ length p.queue
    unfolding cpu_words block_words stats_words counts
    queue_count = refl

    timer_count : get_or b 22 0 ≡ length p.timers
    unfolding cpu_words block_words stats_words counts
    timer_count = refl

    ids : entry_ids m b ≡ true
    unfolding entry_ids entry_at
    ids =
        every_of _ (get_or b 21 0)
        (λ i h.
        let l : i < length p.queue = rw queue_count at h in
        let e = entry_is p i l r.queue in
        let f = of_all (EntryFormed n M.contexts) no_entry p.queue o.lists.queue.each i l in
        let x : get_or b (entry_context_ref_column + i) 0 ≡ (get_or p.queue i no_entry).context_ref = ap (λ (y : Entry). y.context_ref) e in
        let k : get_or b (key_ctxt_id_column + i) 0 ≡ (get_or p.queue i no_entry).key.ctxt_id = ap (λ (y : Entry). y.key.ctxt_id) e in
        eq-eqb _ _ (k ∙ f.id ∙ sym (ap (id_of m) x ∙ id_is _ f.name)))

    keys : keys_rise b ≡ true
    unfolding keys_rise
    keys =
        every_of _ (get_or b 21 0 - 1)
        (λ i h.
        let l : i + 1 < length p.queue = omega (arith, queue_count) in
        rw (entry_is p i (omega arith) r.queue, entry_is p (i + 1) l r.queue) (rises no_entry entry_before p.queue i (i + 1) o.lists.queue.rise (omega arith) l))

    timers : timers_rise b ≡ true
    unfolding timers_rise
    timers =
        every_of _ (get_or b 22 0 - 1)
        (λ i h.
        let l : i + 1 < length p.timers = omega (arith, timer_count) in
        rw (timer_is p i (omega arith) r.timers, timer_is p (i + 1) l r.timers) (rises no_timer sooner p.timers i (i + 1) o.lists.timers.rise (omega arith) l))

    present_structure : block_structure m b ≡ true
    unfolding block_structure
    present_structure = rw (present_word p o.scalars.present, names, ids, keys, timers, words_differ p r.timers o.lists.timers.rise a)

  stands_structure : (p : Cpu) → Stands n M.contexts p → Alone p.timers → block_structure m (cpu_words p) ≡ true
  unfolding block_structure cpu_words block_words stats_words no_cpu block_of
  stands_structure p (absent e) a = rw e
  stands_structure p (present o r) a = present_structure p o r a

  pub structured : structure c n m ≡ true
  unfolding structure ids_differ
  structured =
      rw (
        every_of (is_new m) n new_is,
        every_of (λ (k : ℕ). block_structure m (part m (cpu_place n k) block_size)) c (λ k h. rw (block_is k h) (stands_structure (cpu_at M k) (W.cpu k h) (W.alone k))),
      )
