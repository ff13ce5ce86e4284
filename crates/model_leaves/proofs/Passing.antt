-- The image of a well-formed machine passes the check, but for raised words that are over their range. Assumes nothing.
use mathlib.Core.Path.{◌≡◌, refl, sym, ap, ◌∙◌, subst}
use mathlib.Core.Bool.{true}
use mathlib.Core.List.{List, [], map}
use Prim.Native.Nat.{ℕ, ◌+◌, ◌*◌, ◌<◌, ◌≤◌}
use native.Mathlib.Omega.{arith}
use lib.Dec.{eqb}
use lib.ListN.{length, get_or}
use borrow.Author.Tests.{le-leb, le-ltb, lt-ltb, eq-eqb}
use Rattle.columns.specs.Common.{All}
use Rattle.columns.specs.Blocks.{part}
use Rattle.columns.proofs.Tabulate.{part_get}
use Rattle.cpu_stats.specs.Words.{stats_words}
use Rattle.context.specs.declared.Context.{Context}
use Rattle.context.specs.Words.{context_words, record_size}
use Rattle.entries.specs.declared.Entry.{Entry}
use Rattle.percpu.specs.Cpu.{Cpu}
use Rattle.percpu.specs.Words.{block_words}
use Rattle.percpu.specs.Layout.{cpu_words, columns, no_entry}
use Rattle.percpu.proofs.Read.{column_get}
use Rattle.machine.specs.Machine.{Machine, context_at, cpu_at, no_cpu}
use Rattle.machine.specs.Encode.{encode, context_place, cpu_place}
use Rattle.machine.proofs.Places.{length_encode, size_cpus, size_contexts}
use Rattle.image_ranges.specs.Ranges.{context_in_range_to, block_in_range_to, contexts_in_range_to, blocks_in_range_to}
use Rattle.image.specs.Refusal.{size_c, size_n, in_bounds, ranges_to, ranges, sized_refusal, image_refusal}
use Rattle.image.specs.Raised.{block_raised, array_raised, RaisedAtMost}
use Rattle.stages.proofs.Fitting.{all_of}
use Rattle.model_leaves.proofs.WellFormed.{Stands, absent, present, WellFormed}
use Rattle.model_leaves.proofs.Words.{every_of}
use Rattle.model_leaves.proofs.Records.{ContextRaised, record_in_range}
use Rattle.model_leaves.proofs.Blocks.{CpuRaised, stands_in_range}
use Rattle.model_leaves.proofs.Structured.{record_is, block_is, structured}
use Rattle.numbers.specs.Limits.{max_number}
use Rattle.percpu.specs.Places.{block_size}

short : {n : ℕ} {cs : List Context} (p : Cpu) → Stands n cs p → length p.queue ≤ 64
unfolding no_cpu
short p (absent e) = rw e (omega arith)
short p (present o r) = r.queue

-- no number of the machine that a call can raise is over top
pub record MachineRaised (top c n : ℕ) (M : Machine) : Type 0 where
  pub context : (x : ℕ) → x < n → ContextRaised top (context_at M.contexts x)
  pub cpu : (k : ℕ) → k < c → CpuRaised top (cpu_at M k).block (cpu_at M k).queue

module _ (c n : ℕ) (M : Machine) (W : WellFormed c n M) where
  abbrev m : List ℕ
  m = encode M

  pub cpus_are : size_c m ≡ c
  cpus_are = size_cpus M ∙ W.cpus

  pub names_are : size_n m ≡ n
  names_are = size_contexts M ∙ W.contexts

  pub length_is : length m ≡ cpu_place n c
  length_is = length_encode M ∙ rw (W.cpus, W.contexts)

  module _ (top : ℕ) (r : RaisedAtMost top m) where
    context_raised : (x : ℕ) → x < n → ContextRaised top (context_at M.contexts x)
    unfolding context_words
    context_raised x h =
        let a = r.context x (rw names_are h) in
        let q = context_at M.contexts x in
        let word : (i : ℕ) → i < record_size → get_or (context_words q) i 0 ≡ get_or m (context_place x + i) 0
        = λ i l. ap (λ (w : List ℕ). get_or w i 0) (sym (record_is c n M W x h)) ∙ part_get m (context_place x) record_size i l in
        record {
          active_cpu_time = omega (arith, word 8 (omega arith), a.0);
          sched_cpu_time = omega (arith, word 9 (omega arith), a.1.0);
          vtime = omega (arith, word 17 (omega arith), a.1.1.0);
          vd = omega (arith, word 18 (omega arith), a.1.1.1.0);
          key_vd = omega (arith, word 22 (omega arith), a.1.1.1.1.0);
        }

    module _ (k : ℕ) (h : k < c) where
      abbrev p : Cpu
      p = cpu_at M k

      cpu_word : (i : ℕ) → i < block_size → get_or (cpu_words p) i 0 ≡ get_or m (cpu_place n k + i) 0
      cpu_word i l = ap (λ (w : List ℕ). get_or w i 0) (sym (block_is c n M W k h)) ∙ part_get m (cpu_place n k) block_size i l

      -- item i of array j of the queue
      entry_raised : (f : Entry → ℕ) (j : ℕ) → j < 10 → get_or (columns p) j [] ≡ map f p.queue → ((i : ℕ) → i < 64 → get_or m (cpu_place n k + (25 + 64 * j + i)) 0 ≤ top)
          → All (λ (e : Entry). f e ≤ top) p.queue
      entry_raised f j b e a =
          let s : length p.queue ≤ 64 = short p (W.cpu k h) in
          all_of (λ (e : Entry). f e ≤ top) no_entry p.queue
          (λ i l. omega (arith, column_get p p.queue no_entry f j i b e l s, cpu_word (25 + 64 * j + i) (omega arith), a i (omega arith)))

      cpu_raised : CpuRaised top p.block p.queue
      unfolding cpu_words block_words stats_words columns
      cpu_raised =
          let l : k < size_c m = rw cpus_are h in
          let a = subst (λ (y : ℕ). All (λ (i : ℕ). get_or m (cpu_place y k + i) 0 ≤ top) block_raised) names_are (r.block k l) in
          let b = subst (λ (y : ℕ). All (λ (j : ℕ). (i : ℕ) → i < 64 → get_or m (cpu_place y k + (25 + 64 * j + i)) 0 ≤ top) array_raised) names_are (r.array k l) in
          record {
            pit_ticks = omega (arith, cpu_word 5 (omega arith), a.0);
            published_weight = omega (arith, cpu_word 10 (omega arith), a.1.0);
            user = omega (arith, cpu_word 13 (omega arith), a.1.1.0);
            kernel = omega (arith, cpu_word 14 (omega arith), a.1.1.1.0);
            idle = omega (arith, cpu_word 15 (omega arith), a.1.1.1.1.0);
            context_switches = omega (arith, cpu_word 16 (omega arith), a.1.1.1.1.1.0);
            syscall_switches = omega (arith, cpu_word 17 (omega arith), a.1.1.1.1.1.1.0);
            v = omega (arith, cpu_word 19 (omega arith), a.1.1.1.1.1.1.1.0);
            total_weight = omega (arith, cpu_word 20 (omega arith), a.1.1.1.1.1.1.1.1.0);
            key_vd = entry_raised (λ (e : Entry). e.key.vd) 0 (omega arith) refl b.0;
            vtime = entry_raised (λ (e : Entry). e.vtime) 3 (omega arith) refl b.1.0;
          }

    pub words_raised : MachineRaised top c n M
    words_raised = record { context = context_raised; cpu = cpu_raised }

  pub in_ranges : (top : ℕ) → MachineRaised top c n M → ranges_to top m ≡ true
  unfolding ranges_to contexts_in_range_to blocks_in_range_to
  in_ranges top r =
      rw (
        cpus_are,
        names_are,
        every_of (λ (x : ℕ). context_in_range_to top c (part m (context_place x) record_size)) n
            (λ x h. rw (record_is c n M W x h) (record_in_range top c (context_at M.contexts x) (W.context x h) (r.context x h))),
        every_of (λ (k : ℕ). block_in_range_to top n (part m (cpu_place n k) block_size)) c
            (λ k h. rw (block_is c n M W k h) (stands_in_range top n M.contexts (cpu_at M k) (W.cpu k h) (r.cpu k h) (λ x g. (W.context x g).id) W.bounds.2)),
      )

  pub machine_passes : (time : ℕ) → time ≤ max_number → MachineRaised max_number c n M → image_refusal time m ≡ 0
  unfolding image_refusal sized_refusal in_bounds ranges
  machine_passes time h r =
      let b = W.bounds in
      let l : 2 ≤ length m = omega (arith, length_is) in
      let e : eqb (length m) (cpu_place n c) ≡ true = eq-eqb (length m) (cpu_place n c) length_is in
      rw (le-ltb (length m) 2 l, cpus_are, names_are, lt-ltb 0 c (omega (arith, b.0)), le-leb c 4 b.1, lt-ltb 0 n (omega (arith, b.2)), le-leb n 64 b.3, e, le-leb time max_number h, in_ranges max_number r, structured c n M W)

  pub passes : (time : ℕ) → time ≤ max_number → RaisedAtMost max_number m → image_refusal time m ≡ 0
  passes time h r = machine_passes time h (words_raised max_number r)
