-- A CPU's lists stay well-formed: insertion, removal, items left; and a CPU over other contexts. Assumes nothing.
use mathlib.Core.Path.{◌≡◌, refl, sym, ap, ◌∙◌}
use mathlib.Core.Bool.{Bool, true, false}
use mathlib.Core.List.{List, [], ◌∷◌, ◌++◌}
use Prim.Native.Nat.{ℕ, ◌<◌}
use Rattle.columns.specs.Common.{keep}
use Rattle.context.specs.declared.Context.{Context}
use Rattle.entries.specs.declared.Entry.{Entry}
use Rattle.entries.specs.declared.Timer.{Timer}
use Rattle.entries.specs.Order.{sooner}
use Rattle.entries.specs.Queue.{timer_insert}
use Rattle.percpu.specs.Cpu.{Cpu}
use Rattle.percpu.specs.Words.{block_of}
use Rattle.machine.specs.Machine.{context_at, no_cpu}
use Rattle.model.proofs.Cases.{never}
use Rattle.model.proofs.Lists.{all_map}
use Rattle.model.proofs.Sorted.{all_insert, insert_sorted}
use Rattle.columns.proofs.Keep.{all_keep}
use Rattle.entries.proofs.Ordered.{sorted_keep}
use Rattle.model_leaves.proofs.WellFormed.{Fixed, fixed, LiveName, EntryFormed, TimerFormed, TimersFormed, NamesFormed, View, view, CpuFormed, Room, Stands, absent, present}
use Rattle.entries.proofs.Ordered.{timers_ordered}

pub names_more : (n : ℕ) (l r : List ℕ) → NamesFormed n l → NamesFormed n r → NamesFormed n (l ++ r)
names_more n [] r a b = b
names_more n (x ∷ xs) r a b = (a.0, names_more n xs r a.1 b)

module _ {n : ℕ} where
  pub timer_inserted : (t : Timer) (l : List Timer) → TimerFormed n t → TimersFormed n l → TimersFormed n (timer_insert t l)
  timer_inserted t l f o =
      record { each = all_insert sooner (TimerFormed n) t l f o.each; rise = insert_sorted timers_ordered t l o.rise }

  pub timers_left : (p : Timer → Bool) (l : List Timer) → TimersFormed n l → TimersFormed n (keep p l)
  timers_left p l o = record { each = all_keep p (TimerFormed n) l o.each; rise = sorted_keep p sooner l o.rise }

-- b has the name of a, and is gone where it is
pub record SameName (a b : Context) : Type 0 where
  pub gone : b.gone ≡ a.gone
  pub id : b.debug_id ≡ a.debug_id

-- over other contexts, of the same ids and the same gone ones
module _ {n : ℕ} (cs ds : List Context) (same : (x : ℕ) → x < n → SameName (context_at cs x) (context_at ds x)) where
  name_over : (x : ℕ) → LiveName n cs x → LiveName n ds x
  name_over x o = record { below = o.below; live = (same x o.below).gone ∙ o.live }

  entry_over : (e : Entry) → EntryFormed n cs e → EntryFormed n ds e
  entry_over e o =
      record {
        name = o.name;
        light = o.light;
        heavy = o.heavy;
        rem_slice = o.rem_slice;
        id = o.id ∙ sym (same e.context_ref o.name).id;
      }

  cpu_over : (p : View) → CpuFormed n cs p → CpuFormed n ds p
  cpu_over p o =
      record {
        scalars = record {
          present = o.scalars.present;
          current = name_over p.scalars.current_ctxt o.scalars.current;
          sched = name_over p.scalars.sched_ctxt o.scalars.sched;
          idle = name_over p.scalars.idle_ctxt o.scalars.idle;
          schedule_time = o.scalars.schedule_time;
          steal_counter = o.scalars.steal_counter;
          remainder = o.scalars.remainder;
        };
        lists = record {
          queue = record {
            each = all_map (EntryFormed n cs) (EntryFormed n ds) entry_over p.lists.queue o.lists.queue.each;
            rise = o.lists.queue.rise;
          };
          timers = o.lists.timers;
          local = o.lists.local;
          ipi = o.lists.ipi;
        };
      }

pub stands_named : {n : ℕ} (cs ds : List Context) → ((x : ℕ) → x < n → SameName (context_at cs x) (context_at ds x)) → (p : Cpu) → Stands n cs p → Stands n ds p
stands_named cs ds e p (absent z) = absent z
stands_named cs ds e p (present f r) = present (cpu_over cs ds e (view p) f) r

pub stands_over : {n : ℕ} (cs ds : List Context) → ((x : ℕ) → x < n → fixed (context_at ds x) ≡ fixed (context_at cs x)) → (p : Cpu) → Stands n cs p → Stands n ds p
stands_over cs ds e =
    stands_named cs ds
    (λ x h. record { gone = ap (λ (f : Fixed). f.gone) (e x h); id = ap (λ (f : Fixed). f.debug_id) (e x h) })

-- a CPU that has its mark is not an absent one
pub present_formed : {n : ℕ} {cs : List Context} (p : Cpu) → p.block.present ≡ true → Stands n cs p → CpuFormed n cs (view p) × Room (view p).lists
unfolding no_cpu block_of
present_formed p e (absent z) = never {b = false} (sym (ap (λ (q : Cpu). q.block.present) z) ∙ e) refl
present_formed p e (present f r) = (f, r)
