-- What every stage of a decision keeps: cs₀ are the contexts before the call. Assumes nothing.
use mathlib.Core.Path.{◌≡◌, sym, ap, ◌∙◌, subst}
use mathlib.Core.Bool.{Bool, true, false, not}
use mathlib.Core.List.{List, [], ◌∷◌, ◌++◌}
use Prim.Native.Nat.{ℕ, ◌<◌, ◌≤◌}
use native.Mathlib.Omega.{arith}
use lib.ListN.{length, set, length-set}
use borrow.Author.Tests.{ltb-false}
use Rattle.context.specs.declared.Context.{Context}
use Rattle.entries.specs.declared.Key.{Key}
use Rattle.entries.specs.declared.Entry.{Entry}
use Rattle.entries.specs.declared.Timer.{Timer}
use Rattle.entries.specs.Order.{entry_before, superseded}
use Rattle.entries.specs.Queue.{keyed, queue_insert, queue_remove, timer_insert, without_superseded}
use Rattle.percpu.specs.Cpu.{Cpu}
use Rattle.percpu.specs.With.{cpu_queue, cpu_queue_len}
use Rattle.machine.specs.Machine.{context_at}
use Rattle.model.specs.State.{State, at, put_context, on_cpu, insert_entry, insert_timer, insert_newest_timer, push_local, remove_key, too_many}
use Rattle.model.proofs.Cases.{never, or_neither}
use Rattle.model.proofs.Queues.{at_set}
use Rattle.model.proofs.Ordered.{insert_ordered, remove_ordered}
use Rattle.model_room.proofs.Lengths.{length_remove}
use Rattle.model_leaves.proofs.WellFormed.{Fixed, fixed, changing, ChangingFormed, LiveName, EntryFormed, QueueFormed, TimerFormed, Lists, View, view, ScalarsFormed, ListsFormed, CpuFormed, Room}
use Rattle.model_leaves.proofs.Lists.{names_more, timer_inserted, timers_left}

-- a: a context before the call; x: the same context now. A gone one keeps every word
pub record ContextKept (c : ℕ) (a x : Context) : Type 0 where
  pub same : fixed x ≡ fixed a
  pub gone : a.gone ≡ true → x ≡ a
  pub live : a.gone ≡ false → ChangingFormed c (changing x)

module _ (c n : ℕ) (cs₀ : List Context) where
  pub record Kept (cs : List Context) (p : View) (no_room : Bool) : Type 0 where
    pub count : length cs ≡ n
    pub context : (x : ℕ) → x < n → ContextKept c (context_at cs₀ x) (context_at cs x)
    pub cpu : CpuFormed n cs₀ p
    pub room : no_room ≡ false → Room p.lists

  abbrev pub KeptState : State → Type 0
  KeptState s = Kept s.contexts (view s.cpu) s.no_room

  abbrev pub Contexts : List Context → Type 0
  Contexts cs = (x : ℕ) → x < n → ContextKept c (context_at cs₀ x) (context_at cs x)

  -- a live context's record changes
  pub set_kept : (cs : List Context) (x : ℕ) (q : Context) → length cs ≡ n → Contexts cs → LiveName n cs₀ x → fixed q ≡ fixed (context_at cs x)
      → (ChangingFormed c (changing (context_at cs x)) → ChangingFormed c (changing q)) → Contexts (set cs x q)
  set_kept cs x q l o a f g y h =
      at_set (ContextKept c (context_at cs₀ y)) cs x q y (rw l a.below)
      (λ e. rw e
      (record {
        same = f ∙ (o x a.below).same;
        gone = λ z. never z a.live;
        live = λ z. g ((o x a.below).live z);
      }))
      (λ z. o y h)

  module _ (s : State) (o : KeptState s) where
    pub put_kept : (x : ℕ) (q : Context) → LiveName n cs₀ x → fixed q ≡ fixed (at s x) → (ChangingFormed c (changing (at s x)) → ChangingFormed c (changing q))
        → KeptState (put_context x q s)
    put_kept x q a f g =
        record {
          count = length-set s.contexts x q ∙ o.count;
          context = set_kept s.contexts x q o.count o.context a f g;
          cpu = o.cpu;
          room = o.room;
        }

    -- the record of a live context
    pub live_formed : (x : ℕ) → LiveName n cs₀ x → ChangingFormed c (changing (at s x))
    live_formed x a = (o.context x a.below).live a.live

    pub same_fixed : (x : ℕ) → x < n → fixed (at s x) ≡ fixed (context_at cs₀ x)
    same_fixed x h = (o.context x h).same

    -- one that is not gone now was not
    pub live_name : (x : ℕ) → x < n → (at s x).gone ≡ false → LiveName n cs₀ x
    live_name x h e = record { below = h; live = sym (ap (λ (f : Fixed). f.gone) (same_fixed x h)) ∙ e }

    -- other lists
    lists_kept : {l : Lists} {no_room : Bool} → ListsFormed n cs₀ l → (no_room ≡ false → Room l) → Kept s.contexts (record { scalars = (view s.cpu).scalars; lists = l }) no_room
    lists_kept f r = record { count = o.count; context = o.context; cpu = record { scalars = o.cpu.scalars; lists = f }; room = r }

    pub insert_kept : (e : Entry) → EntryFormed n cs₀ e → KeptState (insert_entry e s)
    insert_kept e f =
        let q = queue_insert e s.cpu.queue in
        let k = o.cpu.lists in
        lists_kept (record { queue = insert_ordered (EntryFormed n cs₀) e s.cpu.queue f k.queue; timers = k.timers; local = k.local; ipi = k.ipi })
        (λ z.
        let (a, b) = or_neither s.no_room (too_many q) z in
        let l : length q ≤ 64 = ltb-false 64 (length q) b in
        let r = o.room a in
        record { queue = l; timers = r.timers; local = r.local; ipi = r.ipi; queue_len = omega arith })

    pub timer_kept : (t : Timer) → TimerFormed n t → KeptState (insert_timer t s)
    timer_kept t f =
        let l = timer_insert t s.cpu.timers in
        let k = o.cpu.lists in
        lists_kept (record { queue = k.queue; timers = timer_inserted t s.cpu.timers f k.timers; local = k.local; ipi = k.ipi })
        (λ z.
        let (a, b) = or_neither s.no_room (too_many l) z in
        let r = o.room a in
        record { queue = r.queue; timers = ltb-false 64 (length l) b; local = r.local; ipi = r.ipi; queue_len = r.queue_len })

    pub newest_kept : (t : Timer) → TimerFormed n t → KeptState (insert_newest_timer t s)
    newest_kept t f =
        let d = without_superseded t s.cpu.timers in
        let l = timer_insert t d in
        let k = o.cpu.lists in
        lists_kept (record { queue = k.queue; timers = timer_inserted t d f (timers_left (λ (u : Timer). not (superseded t u)) s.cpu.timers k.timers); local = k.local; ipi = k.ipi })
        (λ z.
        let (a, b) = or_neither s.no_room (too_many l) z in
        let r = o.room a in
        record { queue = r.queue; timers = ltb-false 64 (length l) b; local = r.local; ipi = r.ipi; queue_len = r.queue_len })

    pub name_kept : (x : ℕ) → x < n → KeptState (push_local x s)
    name_kept x h =
        let l = s.cpu.local_wakeup_list ++ (x ∷ []) in
        let k = o.cpu.lists in
        lists_kept (record { queue = k.queue; timers = k.timers; local = names_more n s.cpu.local_wakeup_list (x ∷ []) k.local (h, tt); ipi = k.ipi })
        (λ z.
        let (a, b) = or_neither s.no_room (too_many l) z in
        let r = o.room a in
        record { queue = r.queue; timers = r.timers; local = ltb-false 64 (length l) b; ipi = r.ipi; queue_len = r.queue_len })

    -- another queue, of at most as many entries; its length is published or not
    module _ (q : List Entry) (f : QueueFormed n cs₀ q) (l : length q ≤ length s.cpu.queue) where
      shorter : ListsFormed n cs₀ (record { queue_len = length q; queue = q; timers = s.cpu.timers; local = s.cpu.local_wakeup_list; ipi = s.cpu.ipi_context_wakeup_list })
      shorter = let k = o.cpu.lists in record { queue = f; timers = k.timers; local = k.local; ipi = k.ipi }

      pub published_kept : KeptState (on_cpu (λ p. cpu_queue_len (length q) (cpu_queue q p)) s)
      published_kept =
          lists_kept shorter
          (λ z.
          let r = o.room z in
          record { queue = omega (arith, r.queue); timers = r.timers; local = r.local; ipi = r.ipi; queue_len = omega (arith, r.queue) })

      pub queue_kept : KeptState (on_cpu (λ p. cpu_queue q p) s)
      queue_kept =
          let k = o.cpu.lists in
          lists_kept (record { queue = f; timers = k.timers; local = k.local; ipi = k.ipi })
          (λ z.
          let r = o.room z in
          record { queue = omega (arith, r.queue); timers = r.timers; local = r.local; ipi = r.ipi; queue_len = r.queue_len })

    pub key_kept : (k : Key) → KeptState (remove_key k s)
    key_kept k = published_kept (queue_remove k s.cpu.queue) (remove_ordered (EntryFormed n cs₀) k s.cpu.queue o.cpu.lists.queue) (length_remove entry_before (keyed k) s.cpu.queue)

    -- other scalars
    pub scalars_kept : (f : Cpu → Cpu) → (view (f s.cpu)).lists ≡ (view s.cpu).lists → ScalarsFormed n cs₀ (view (f s.cpu)).scalars → KeptState (on_cpu f s)
    scalars_kept f e h =
        record {
          count = o.count;
          context = o.context;
          cpu = record { scalars = h; lists = subst (ListsFormed n cs₀) (sym e) o.cpu.lists };
          room = λ z. subst Room (sym e) (o.room z);
        }
