-- What leaves the queue after the choice. Assumes nothing.
use mathlib.Core.Path.{◌≡◌, sym, ap, ◌∙◌}
use mathlib.Core.List.{List, map}
use Rattle.plain_choice.specs.declared.Choice.{Choice}
use Rattle.plain_choice.specs.Table.{choice_of}
use Prim.Native.Nat.{ℕ, ◌-◌}
use lib.ListN.{length, take}
use Rattle.entries.specs.declared.Key.{Key}
use Rattle.entries.specs.declared.Entry.{Entry}
use Rattle.percpu.specs.With.{block_queue_len, block_published_weight, block_total_weight, cpu_v}
use Rattle.model.specs.State as model
use Rattle.model.specs.State.{on_cpu}
use Rattle.plain_model.specs.Choice.{without_keys, cleaned_up, taken_out, chosen}
use Rattle.plain_lists.specs.Lists.{Queue}
use Rattle.plain_lists.specs.Lists.{entries_of, Stands}
use Rattle.plain_lists.proofs.Listing.{length_items}
use Rattle.plain_state.specs.declared.State.{State}
use Rattle.plain_state.specs.States.{state_in, Sound, Became}
use Rattle.plain_scan.specs.declared.Scan.{Scan}
use Rattle.plain_scan.specs.Scanned as scanned

abbrev pub keys_of : List Entry → List Key
keys_of l = map (λ (e : Entry). e.key) l

-- the state after it
module _ (n : ℕ) (s : State) (f : Scan) (o : Sound n s) (g : scanned.Sound n f) where
  abbrev after : Queue → ℕ → ℕ → State
  after q len total =
      record {
        contexts = f.contexts;
        cpu = record {
          block = block_total_weight total (block_published_weight total (block_queue_len len s.cpu.block));
          queue = q;
          timers = s.cpu.timers;
          local = s.cpu.local;
          ipi = s.cpu.ipi;
          remainder = s.cpu.remainder;
        };
        no_room = s.no_room;
      }

  abbrev left : List Entry
  left = without_keys (entries_of s.cpu.queue) (keys_of (entries_of f.leaving))

  abbrev placed_as : List Entry → ℕ → ℕ → model.State
  placed_as l len total =
      record {
        contexts = take n f.contexts;
        cpu = record {
          block = block_total_weight total (block_published_weight total (block_queue_len len s.cpu.block));
          queue = l;
          timers = (state_in n s).cpu.timers;
          local_wakeup_list = (state_in n s).cpu.local_wakeup_list;
          ipi_context_wakeup_list = (state_in n s).cpu.ipi_context_wakeup_list;
          remainder = s.cpu.remainder;
        };
        no_room = s.no_room;
      }

  pub cleaned : {q : Queue} {len total : ℕ} → Stands q left → len ≡ q.len → total ≡ s.cpu.block.total_weight - f.weight_change
      → Became n (after q len total) (cleaned_up (scanned.scan_of n f) (state_in n s))
  unfolding cleaned_up
  cleaned {q} {len} {total} t e w =
      record {
        sound = record { few = o.few; contexts = g.contexts; queue = t.sized; timers = o.timers; local = o.local; ipi = o.ipi; flat = o.flat };
        is =
            ap (λ (z : List Entry). placed_as z len total) t.is
            ∙ ap (λ (m : ℕ). placed_as left m total) (e ∙ sym (length_items q t.sized) ∙ ap length t.is)
            ∙ ap (λ (m : ℕ). placed_as left (length left) m) w;
      }

pub chosen_all : (n : ℕ) (s : State) (f : Scan) (w : Choice) {t u r : State} → Became n t (cleaned_up (scanned.scan_of n f) (state_in n s))
    → Became n u (on_cpu (cpu_v w.v) (state_in n t)) → Became n r (taken_out w.winner (state_in n u)) → Became n r (chosen (choice_of w) (scanned.scan_of n f) (state_in n s))
unfolding chosen
chosen_all n s f w a b c =
    record {
      sound = c.sound;
      is = c.is ∙ ap (taken_out w.winner) (b.is ∙ ap (on_cpu (cpu_v w.v)) a.is);
    }
