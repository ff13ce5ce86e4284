-- What stays when the lists are drained, in the code's words. Assumes nothing.
use mathlib.Core.Path.{◌≡◌, refl, sym, ap, ◌∙◌, subst}
use mathlib.Core.List.{List, [], ◌∷◌, map}
use Prim.Native.Nat.{ℕ, ◌<◌}
use lib.ListN.{length, get_or}
use Rattle.columns.specs.Common.{keep, All}
use Rattle.columns.proofs.Keep.{all_keep}
use Rattle.entries.specs.declared.Entry.{Entry}
use Rattle.entries.specs.declared.Timer.{Timer}
use Rattle.model.specs.Wakeup.{stays}
use Rattle.plain_model.specs.Wakeup.{drained}
use Rattle.plain_lists.specs.Lists.{Queue}
use Rattle.plain_lists.specs.Lists.{entries_of, Stands}
use Rattle.stages.proofs.Fitting.{of_all}
use Rattle.plain_state.specs.declared.State.{State}
use Rattle.plain_state.specs.States.{Names, timer_of, state_in, Sound, Became}
use Rattle.plain_wakeup.specs.Wakeups.{entry_stays}
use Rattle.plain_wakeup.proofs.Turns.{keep_through}

-- the name of a timer's entry
names : (n : ℕ) (l : List Entry) → All (λ (t : Timer). t.context_ref < n) (map timer_of l) → All (λ (e : Entry). e.key.ctxt_id < n) l
names n [] h = tt
names n (e ∷ l) h = (h.0, names n l h.1)

pub name_at : {n : ℕ} (xs l : List Entry) (i : ℕ) (d : Entry) → xs ≡ l → i < length xs → All (λ (t : Timer). t.context_ref < n) (map timer_of l) → (get_or xs i d).key.ctxt_id < n
name_at {n} xs l i d e h a = of_all (λ (e : Entry). e.key.ctxt_id < n) d xs (names n xs (rw e a)) i h

module _ (n time : ℕ) (s : State) (o : Sound n s) {q : Queue} {local : Names} (l : Stands local []) (t : Stands q (keep (entry_stays time (state_in n s)) (entries_of s.cpu.timers))) where
  abbrev after : State
  after =
      record {
        contexts = s.contexts;
        cpu = record {
          block = s.cpu.block;
          queue = s.cpu.queue;
          timers = q;
          local = local;
          ipi = s.cpu.ipi;
          remainder = s.cpu.remainder;
        };
        no_room = s.no_room;
      }

  same : (l : List Entry) → All (λ (e : Entry). entry_stays time (state_in n s) e ≡ stays time (state_in n s) (timer_of e)) l
  same [] = tt
  same (e ∷ l) = (refl, same l)

  timers_are : map timer_of (entries_of q) ≡ keep (stays time (state_in n s)) (map timer_of (entries_of s.cpu.timers))
  timers_are = ap (map timer_of) t.is ∙ keep_through (entry_stays time (state_in n s)) (stays time (state_in n s)) (entries_of s.cpu.timers) (same (entries_of s.cpu.timers))

  pub drained_became : Became n after (drained time (state_in n s))
  drained_became =
      record {
        sound = record {
          few = o.few;
          contexts = o.contexts;
          queue = o.queue;
          timers = t.sized;
          local = l.sized;
          ipi = o.ipi;
          flat = subst (λ (l : List Entry). All (λ (e : Entry). e.key.rem_slice ≡ 0) l) (sym t.is)
              (all_keep (entry_stays time (state_in n s)) (λ (e : Entry). e.key.rem_slice ≡ 0) (entries_of s.cpu.timers) o.flat);
        };
        is = rw (timers_are, l.is);
      }
