-- A state whose CPU names contexts of a set only, and what is stored in it. Assumes nothing.
use mathlib.Core.Path.{◌≡◌, ◌∙◌}
use mathlib.Core.Bool.{Bool, true}
use mathlib.Core.List.{List, [], ◌∷◌, ◌++◌}
use Prim.Native.Nat.{ℕ}
use lib.ListN.{length, set, length-set}
use Rattle.columns.specs.Common.{All}
use Rattle.context.specs.declared.Context.{Context}
use Rattle.entries.specs.declared.Key.{Key}
use Rattle.entries.specs.declared.Entry.{Entry}
use Rattle.entries.specs.declared.Timer.{Timer}
use Rattle.entries.specs.Queue.{queue_insert, queue_remove, timer_insert, keyed}
use Rattle.entries.specs.Order.{entry_before, sooner}
use Rattle.model.specs.State.{State}
use Rattle.model.proofs.Sorted.{all_insert, all_remove}
use Rattle.model_local.specs.Names.{Names, names}
use Rattle.model_local.specs.Local.{Within}
use Rattle.model_local.proofs.Others.{all_append}

module _ (S : ℕ → Bool) (n : ℕ) where
  -- a state of n contexts whose CPU names contexts of the set only
  pub record Own (cs : List Context) (l : Names) : Type 0 where
    pub within : Within S l
    pub count : length cs ≡ n

  abbrev pub Owns : State → Type 0
  Owns s = Own s.contexts (names s.cpu)

  abbrev pub OfTimer : Timer → Type 0
  OfTimer t = S t.context_ref ≡ true

  abbrev pub OfEntry : Entry → Type 0
  OfEntry e = S e.context_ref ≡ true

  abbrev pub OfNumber : ℕ → Type 0
  OfNumber x = S x ≡ true

  -- with another queue, other timers, another local list, or another record of a context
  abbrev pub queue_names : List Entry → Names → Names
  queue_names q l =
      record { current = l.current; in_charge = l.in_charge; idle = l.idle; queued = q; timed = l.timed; listed_here = l.listed_here; listed_by_interrupt = l.listed_by_interrupt }

  abbrev pub timer_names : List Timer → Names → Names
  timer_names ts l =
      record { current = l.current; in_charge = l.in_charge; idle = l.idle; queued = l.queued; timed = ts; listed_here = l.listed_here; listed_by_interrupt = l.listed_by_interrupt }

  abbrev pub list_names : List ℕ → Names → Names
  list_names xs l =
      record { current = l.current; in_charge = l.in_charge; idle = l.idle; queued = l.queued; timed = l.timed; listed_here = xs; listed_by_interrupt = l.listed_by_interrupt }

  abbrev pub charge_names : ℕ → Names → Names
  charge_names x l =
      record { current = l.current; in_charge = x; idle = l.idle; queued = l.queued; timed = l.timed; listed_here = l.listed_here; listed_by_interrupt = l.listed_by_interrupt }

  abbrev pub current_names : ℕ → Names → Names
  current_names x l =
      record { current = x; in_charge = l.in_charge; idle = l.idle; queued = l.queued; timed = l.timed; listed_here = l.listed_here; listed_by_interrupt = l.listed_by_interrupt }

  module _ {cs : List Context} {l : Names} where
    pub with_queue : (q : List Entry) → All OfEntry q → Own cs l → Own cs (queue_names q l)
    with_queue q h o =
        let w = o.within in
        record {
          within = record { current = w.current; in_charge = w.in_charge; idle = w.idle; queued = h; timed = w.timed; listed_here = w.listed_here };
          count = o.count;
        }

    pub with_timers : (ts : List Timer) → All OfTimer ts → Own cs l → Own cs (timer_names ts l)
    with_timers ts h o =
        let w = o.within in
        record {
          within = record { current = w.current; in_charge = w.in_charge; idle = w.idle; queued = w.queued; timed = h; listed_here = w.listed_here };
          count = o.count;
        }

    pub with_list : (xs : List ℕ) → All OfNumber xs → Own cs l → Own cs (list_names xs l)
    with_list xs h o =
        let w = o.within in
        record {
          within = record { current = w.current; in_charge = w.in_charge; idle = w.idle; queued = w.queued; timed = w.timed; listed_here = h };
          count = o.count;
        }

    pub with_record : (x : ℕ) (c : Context) → Own cs l → Own (set cs x c) l
    with_record x c o = record { within = o.within; count = length-set cs x c ∙ o.count }

    pub with_entry : (e : Entry) → OfEntry e → Own cs l → Own cs (queue_names (queue_insert e l.queued) l)
    with_entry e h o = with_queue (queue_insert e l.queued) (all_insert entry_before OfEntry e l.queued h o.within.queued) o

    pub without_entry : (k : Key) → Own cs l → Own cs (queue_names (queue_remove k l.queued) l)
    without_entry k o = with_queue (queue_remove k l.queued) (all_remove entry_before OfEntry (keyed k) l.queued o.within.queued) o

    pub with_timer : (t : Timer) → OfTimer t → Own cs l → Own cs (timer_names (timer_insert t l.timed) l)
    with_timer t h o = with_timers (timer_insert t l.timed) (all_insert sooner OfTimer t l.timed h o.within.timed) o

    pub with_name : (x : ℕ) → OfNumber x → Own cs l → Own cs (list_names (l.listed_here ++ (x ∷ [])) l)
    with_name x h o = with_list (l.listed_here ++ (x ∷ [])) (all_append OfNumber l.listed_here (x ∷ []) o.within.listed_here (h, tt)) o

    pub with_charge : (x : ℕ) → OfNumber x → Own cs l → Own cs (charge_names x l)
    with_charge x h o =
        let w = o.within in
        record {
          within = record { current = w.current; in_charge = h; idle = w.idle; queued = w.queued; timed = w.timed; listed_here = w.listed_here };
          count = o.count;
        }

    pub with_current : (x : ℕ) → OfNumber x → Own cs l → Own cs (current_names x l)
    with_current x h o =
        let w = o.within in
        record {
          within = record { current = h; in_charge = w.in_charge; idle = w.idle; queued = w.queued; timed = w.timed; listed_here = w.listed_here };
          count = o.count;
        }
