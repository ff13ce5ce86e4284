-- A wake-up that enters the queue: the context was not active and counts from now on, or is queued again with the weight that it had.
use Rattle.std.specs.Prelude.{if◌then◌else◌, None, Option, Some}
use mathlib.Core.Path.{◌≡◌, refl, subst, sym, ap, ◌∙◌}
use mathlib.Core.Bool.{true, false}
use mathlib.Core.List.{List}
use mathlib.Core.Logic.{◌⊎◌, inl, inr, ◌≢◌}
use Prim.Native.Nat.{ℕ, ◌+◌, ◌<◌}
use native.Mathlib.Omega.{arith}
use lib.Dec.{eqb}
use lib.ListN.{length, set, length-set}
use lib.Seq.{get_or-set_same, get_or-set_other}
use Rattle.context.specs.declared.Context.{Context}
use Rattle.context.specs.Key.{queue_key, without_key, entry_of}
use Rattle.weights.specs.Weights.{weight}
use Rattle.entries.specs.declared.Entry.{Entry}
use Rattle.entries.specs.Queue.{queue_insert, queue_remove}
use Rattle.machine.specs.Machine.{Machine, context_at, no_context, cpu_at}
use Rattle.model.specs.State.{State, at}
use Rattle.model.specs.Wakeup.{Wakeup, waits_for, woken_by, without_old_key, entering, enter}
use Rattle.model.specs.Tidy.{Sound, Tidy, Present, context}
use Rattle.model.specs.Accepted.{ServesOwn}
use Rattle.model.proofs.Cases.{by_test, pick}
use Rattle.model.proofs.Lists.{In}
use Rattle.model.proofs.Queues.{Run, on, on_here, Has, Without, gone_of}
use Rattle.model.proofs.Moves.{no_key}
use Rattle.model.proofs.Before.{queues, Free}
use Rattle.model.proofs.Entering.{Unkeyed, Entered, old_key}
use Rattle.model.proofs.WakeupCases.{woken_run, woken_fixed, asked, woke, Asked, Enters}
use Rattle.model.proofs.Woken.{Waking, Named, enters_free, here_only, enter_unkeyed, enter_entered}
use Rattle.model_weights.specs.Weighed.{Weighed, Agree}
use Rattle.model_weights.proofs.Sums.{added, added_remove, added_put, entry_in, insert_cases, remove_in, held_weight}
use Rattle.model_weights.proofs.Weighing.{prio_of, Alive, own_weight, Weights, Change, change}
use Rattle.model_weights.proofs.StartWeights.{Placed, Charged, not_free}

pub woken_active : (o : Option ℕ) (c : Context) → (woken_by o c).is_active ≡ c.is_active
woken_active None c = refl
woken_active (Some t) c = pick (λ (b : Context). b.is_active ≡ c.is_active) (waits_for t c) (λ e. refl) (λ e. refl)

module _ (k time : ℕ) (M : Machine) (S : Sound M) (T : Tidy M) (P : Present M k) (own : ServesOwn k time M) (W : Weighed M) (A : Agree M) where
  abbrev pub now : State → ℕ → List Entry
  now s = on k s.cpu.queue (queues M)

  abbrev pub holder_number : ℕ
  holder_number = (cpu_at M k).block.sched_ctxt

  -- all along the wake-ups: the stored total is the weight added up
  pub record Wakes (s : State) : Type 0 where
    pub waking : Waking k time M S T s
    pub weights : Weights M.contexts (Placed M) (Charged M) s.contexts (now s)
    pub holder_is : at s holder_number ≡ context M holder_number
    pub total : s.cpu.block.total_weight ≡ held_weight (context M holder_number) + added s.cpu.queue

  -- one that enters
  module _ (s : State) (w : Wakeup) (n : Wakes s) (m : Named k time M S T w) (a : Asked s w) (l : eqb (asked s w).lock 0 ≡ true) (e : Enters (woke s w)) where
    abbrev x : ℕ
    x = w.context_ref

    abbrev c : Context
    c = woke s w

    abbrev c' : Context
    c' = entering s.cpu.block.v c

    abbrev e' : Entry
    e' = entry_of x (weight c.prio) c'

    abbrev q : List Entry
    q = s.cpu.queue

    abbrev p : List Entry
    p = without_old_key c q

    abbrev R : ℕ → List Entry
    R = queues M

    free : Free M x
    free = enters_free k time M S T s x c n.waking (woken_fixed w.wake (asked s w)) e

    alive : Alive M.contexts x
    alive = sym (gone_of (n.waking.kept.same x)) ∙ a.live

    weighs : weight c.prio ≡ own_weight M.contexts x
    weighs = ap weight (prio_of (woken_fixed w.wake (asked s w)) ∙ prio_of (n.waking.kept.same x))

    range : x < length s.contexts
    range = rw n.waking.kept.count m.range

    u : Unkeyed (Free M) M.contexts s.contexts k q R x c p
    u = enter_unkeyed k time M S T own s w n.waking m a l

    v : Entered (Free M) M.contexts s.contexts k q R x c' (queue_insert e' p)
    v = enter_entered k time M S T own s w n.waking m a l e

    was_in : (d : Entry) (i : ℕ) → In d (on k p R i) → In d (on k q R i)
    was_in d i =
        pick (λ (y : List Entry). In d (on k y R i) → In d (on k q R i)) c.has_queue_key (λ t h. remove_in k q R (queue_key c) d i h) (λ t h. h)

    enters_so : Change M.contexts (Placed M) (Charged M) (Charged M) s.contexts (on k q R) (on k (queue_insert e' p) R) x c'
    enters_so =
        record {
          range = range;
          came = λ d i h o. old d i o (insert_cases k p R e' d i h);
          stays = λ y o h. v.has y h;
          its_entry = λ d i h z b. its d i z (insert_cases k p R e' d i h);
          may = λ b. inl (alive, v.new);
          held = λ y o h. h;
          kept = λ b. absurd (not_free M x free b);
        }
      where
        old : (d : Entry) (i : ℕ) → d.context_ref ≢ x → (d ≡ e') ⊎ In d (on k p R i) → In d (on k q R i)
        old d i o (inl z) = absurd (o (ap (λ (y : Entry). y.context_ref) z))
        old d i o (inr h) = was_in d i h

        its : (d : Entry) (i : ℕ) → d.context_ref ≡ x → (d ≡ e') ⊎ In d (on k p R i) → (d.weight ≡ own_weight M.contexts x) × (c'.is_active ≡ true)
        its d i z (inl y) = (ap (λ (b : Entry). b.weight) y ∙ weighs, refl)
        its d i z (inr h) = absurd (u.out d i h z)

    -- what the entry adds to the queue is what is added to the total
    adds : (if c.is_active then s.cpu.block.total_weight else s.cpu.block.total_weight + weight c.prio)
        ≡ held_weight (context M holder_number) + added (queue_insert e' p)
    adds = go (entry_in x q)
      where
        r₁ : x < length (set s.contexts x (without_key c))
        r₁ = rw (length-set s.contexts x (without_key c)) range

        own₁ : e'.key.ctxt_id ≡ (context_at (set s.contexts x (without_key c)) x).debug_id
        own₁ = sym (ap (λ (b : Context). b.debug_id) (get_or-set_same s.contexts x (without_key c) no_context range))

        put : added (queue_insert e' p) ≡ weight c.prio + added p
        put = added_put (Free M) M.contexts (set s.contexts x (without_key c)) k p R u.inv x e' r₁ own₁ u.out

        in_now : (d : Entry) → In d q → In d (on k q R k)
        in_now d i = rw (on_here k q R) i

        -- it had an entry here
        again : (d : Entry) → In d q → d.context_ref ≡ x → (c.is_active ≡ true) × (added q ≡ weight c.prio + added p)
        again d i z =
            let (h, y) = old_key (Free M) M.contexts s.contexts k q R x c n.waking.kept a.live (woken_run w.wake (asked s w)) (woken_fixed w.wake (asked s w)) d k (in_now d i) z in
            let b : Alive M.contexts d.context_ref = subst (Alive M.contexts) (sym z) alive in
            let g : queue_remove (queue_key c) q ≡ p = rw h in (
              woken_active w.wake (asked s w) ∙ subst (λ o. (at s o).is_active ≡ true) z (n.weights.active d k (in_now d i) b),
              added_remove d q (rw (on_here k q R) at (n.waking.kept.sorted k)) i
                  ∙ ap (λ o. o + added (queue_remove d.key q)) (n.weights.weighs d k (in_now d i) b ∙ ap (own_weight M.contexts) z ∙ sym weighs)
                  ∙ ap (λ (o : List Entry). weight c.prio + added o) (ap (λ o. queue_remove o q) y ∙ g),
            )

        go : ((d : Entry) × In d q × (d.context_ref ≡ x)) ⊎ ((d : Entry) → In d q → d.context_ref ≢ x)
            → (if c.is_active then s.cpu.block.total_weight else s.cpu.block.total_weight + weight c.prio)
            ≡ held_weight (context M holder_number) + added (queue_insert e' p)
        go (inl (d, i, z)) = let (b, y) = again d i z in rw b (n.total ∙ ap (λ o. held_weight (context M holder_number) + o) (y ∙ sym put))
        go (inr f) =
            let o : Without x (on k q R) = none_here f in
            let h : c.has_queue_key ≡ false =
            ap (λ (y : Run). y.has_key) (woken_run w.wake (asked s w)) ∙ no_key (Free M) M.contexts s.contexts (on k q R) x n.waking.kept range a.live o in
            let y : p ≡ q = rw h in
            let t : added p ≡ added q = ap added y in
            let g : s.cpu.block.total_weight ≡ held_weight (context M holder_number) + added q = n.total in
            rw (unmarked o) (rw put (omega (arith, g, t)))
          where
            none_here : ((d : Entry) → In d q → d.context_ref ≢ x) → Without x (on k q R)
            none_here f d i h z =
                let y : i ≡ k = here_only k time M S T own s w n.waking m a l d i h z in
                f d (rw (on_here k q R) at (subst (λ j. In d (on k q R j)) y h)) z

            unmarked : Without x (on k q R) → c.is_active ≡ false
            unmarked o =
                by_test c.is_active (λ t. absurd (None (n.weights.only x m.range (sym (woken_active w.wake (asked s w)) ∙ t)))) (λ t. t)
              where
                None : (Alive M.contexts x × Has x (on k q R)) ⊎ Charged M x → ⊥
                None (inl (b, (d, i, h, z))) = o d i h z
                None (inr (j, h)) = free.not_in_charge j h.present (sym h.named)

    pub enter_wakes : Wakes (enter x c s)
    unfolding enter
    enter_wakes =
        record {
          waking = record { kept = v.inv; roles_kept = n.waking.roles_kept; v = n.waking.v; has = λ y h. v.has y (n.waking.has y h) };
          weights = change M.contexts (Placed M) (Charged M) (Charged M) s.contexts (on k q R) (on k (queue_insert e' p) R) x c' enters_so n.weights;
          holder_is = get_or-set_other s.contexts x holder_number c' no_context (λ z. free.not_in_charge k P (sym z)) ∙ n.holder_is;
          total = adds;
        }
