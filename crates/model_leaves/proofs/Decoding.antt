-- The machine of an image that passes the check is well-formed. Assumes nothing.
use mathlib.Core.Path.{◌≡◌, sym, ap, ◌∙◌, subst}
use mathlib.Core.Bool.{true, false}
use mathlib.Core.List.{List}
use Prim.Native.Nat.{ℕ, ◌<◌}
use native.Mathlib.Omega.{arith}
use native.Mathlib.Nat.{add-zero}
use lib.Dec.{eqb, ltb}
use lib.ListN.{get_or}
use borrow.Author.Tests.{eqb-true, eqb-false, ltb-true, ltb-false}
use Rattle.columns.specs.Common.{In, tabulate}
use Rattle.columns.specs.Blocks.{part}
use Rattle.columns.proofs.Tests.{by_test, and_both}
use Rattle.columns.proofs.Tabulate.{part_get, get_d_past}
use Rattle.context.specs.declared.Context.{Context}
use Rattle.context.specs.Words.{context_of, record_size}
use Rattle.entries.specs.declared.Entry.{Entry}
use Rattle.percpu.specs.Cpu.{Cpu}
use Rattle.percpu.specs.Words.{block_of}
use Rattle.percpu.specs.Layout.{cpu_of, no_entry, no_timer}
use Rattle.machine.specs.Machine.{Machine, cpu_at, no_cpu}
use Rattle.machine.specs.Encode.{decode, context_place, cpu_place}
use Rattle.machine.specs.Shape.{CpuFits, Fits}
use Rattle.image_structure.specs.Structure.{is_live, names_live}
use Rattle.image.specs.Refusal.{size_c, size_n}
use Rattle.image.proofs.Admitted.{Passed, a_context, a_block, block_structure_of, decoded_fits}
use Rattle.model.proofs.Lists.{all_in}
use Rattle.stages.proofs.Fitting.{all_of}
use Rattle.admission.proofs.Soundness.{in_at, contexts_are, cpus_are, sound}
use Rattle.admission.proofs.Bounds.{decoded_below}
use Rattle.model_leaves.proofs.WellFormed.{ContextFormed, LiveName, EntryFormed, TimerFormed, view, ScalarsFormed, Stands, absent, present, WellFormed}
use Rattle.model_timers.specs.Timers.{Alone}
use Rattle.model_leaves.proofs.TimersAlone.{found_alone}
use Rattle.model_leaves.proofs.Found.{context_formed, absent_is, WordsFormed, words_formed}
use Rattle.percpu.specs.Places.{block_size}

module _ {time : ℕ} (m : List ℕ) (p : Passed time m) where
  abbrev M : Machine
  M = decode m

  abbrev n : ℕ
  n = size_n m

  fits : Fits (size_c m) n M
  fits = decoded_fits m p

  live_at : (x : ℕ) → x < n → is_live m x ≡ true → LiveName n M.contexts x
  unfolding is_live context_of
  live_at x h t =
      let z : get_or (part m (context_place x) record_size) 0 0 ≡ 0 = part_get m (context_place x) record_size 0 (omega arith) ∙ rw (add-zero (context_place x)) (eqb-true _ 0 t)
      in record { below = h; live = ap (λ (q : Context). q.gone) (contexts_are m p x h) ∙ rw z }

  module _ (k : ℕ) (h : k < size_c m) where
    abbrev b : List ℕ
    b = part m (cpu_place n k) block_size

    abbrev q : Cpu
    q = cpu_at M k

    is : q ≡ cpu_of b
    is = cpus_are m p k h

    o : CpuFits n q
    o = fits.cpu k h

    -- a CPU that is present
    module _ (z : eqb (get_or b 0 0) 0 ≡ false) where
      words : WordsFormed q
      words = subst WordsFormed (sym is) (words_formed n b (a_block m p k h) (eqb-false _ 0 z))

      names : (is_live m (get_or b 1 0) ≡ true) × (is_live m (get_or b 2 0) ≡ true) × (is_live m (get_or b 3 0) ≡ true)
      unfolding names_live
      names =
          let t = and_both (is_live m (get_or b 1 0)) _ (block_structure_of m p k h z).names
          in let u = and_both (is_live m (get_or b 2 0)) (is_live m (get_or b 3 0)) t.1
          in (t.0, u.0, u.1)

      scalars_formed : ScalarsFormed n M.contexts (view q).scalars
      unfolding cpu_of block_of
      scalars_formed =
          record {
            present = words.is_present;
            current = live_at _ o.current (subst (λ (y : Cpu). is_live m y.block.current_ctxt ≡ true) (sym is) names.0);
            sched = live_at _ o.sched (subst (λ (y : Cpu). is_live m y.block.sched_ctxt ≡ true) (sym is) names.1);
            idle = live_at _ o.idle (subst (λ (y : Cpu). is_live m y.block.idle_ctxt ≡ true) (sym is) names.2);
            schedule_time = ((decoded_below m p).cpu k h).schedule_time;
            steal_counter = words.steal_counter;
            remainder = o.remainder;
          }

      entry_formed : (e : Entry) → In e q.queue → EntryFormed n M.contexts e
      entry_formed e i =
          let (j, l, s) = in_at e no_entry q.queue i in
          let f = o.entry j l in
          record {
            name = rw s f.name;
            light = rw s f.light;
            heavy = rw s f.heavy;
            rem_slice = rw s (words.rem_slice j l);
            id = sym ((sound m p).entry_id e k i);
          }

      stands : Stands n M.contexts q
      stands =
          present
          (record {
            scalars = scalars_formed;
            lists = record {
              queue = record { each = all_in (EntryFormed n M.contexts) q.queue entry_formed; rise = o.keys_rise };
              timers = record {
                each = all_of (TimerFormed n) no_timer q.timers (λ i l. record { name = o.timer i l; wake = ((decoded_below m p).cpu k h).timer_wake i l });
                rise = o.timers_rise;
              };
              local = all_of (λ (x : ℕ). x < n) 0 q.local_wakeup_list o.local_name;
              ipi = all_of (λ (x : ℕ). x < n) 0 q.ipi_context_wakeup_list o.ipi_name;
            };
          })
          (record { queue = o.queue; timers = o.timers; local = o.local; ipi = o.ipi; queue_len = words.queue_len })

    cpu_stands : Stands n M.contexts q
    cpu_stands =
        by_test (eqb (get_or b 0 0) 0) (λ t. absent (is ∙ absent_is b ((a_block m p k h).absent (eqb-true _ 0 t)))) (λ t. stands t)

    -- an absent block has no timers
    cpu_alone : Alone q.timers
    unfolding cpu_of tabulate
    cpu_alone =
        by_test (eqb (get_or b 0 0) 0)
        (λ t. let z : get_or b 22 0 ≡ 0 = (a_block m p k h).absent (eqb-true _ 0 t) 22 (omega arith) in subst (λ (y : Cpu). Alone y.timers) (sym is) (rw z (λ x y i j e. absurd i)))
        (λ t. subst (λ (y : Cpu). Alone y.timers) (sym is) (found_alone b (block_structure_of m p k h t).alone))

  -- and past the last CPU there are none
  timers_alone : (k : ℕ) → Alone (cpu_at M k).timers
  unfolding cpu_at no_cpu
  timers_alone k =
      by_test (ltb k (size_c m)) (λ t. cpu_alone k (ltb-true k _ t))
      (λ t. subst (λ (y : Cpu). Alone y.timers) (sym (get_d_past M.cpus k no_cpu (omega (arith, fits.cpus, ltb-false k _ t)))) (λ x y i j e. absurd i))

  pub well_formed : WellFormed (size_c m) n M
  well_formed =
      record {
        bounds = fits.bounds;
        cpus = fits.cpus;
        contexts = fits.contexts;
        context = λ x h. subst (ContextFormed (size_c m)) (sym (contexts_are m p x h)) (context_formed (size_c m) _ (a_context m p x h));
        ids_differ = λ x y h g. (sound m p).ids_differ x y (omega (arith, fits.contexts)) (omega (arith, fits.contexts));
        cpu = cpu_stands;
        alone = timers_alone;
      }
