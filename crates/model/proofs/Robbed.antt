-- Entries of one other CPU are stolen, the first of them winning where nobody else runs.
use Rattle.std.specs.Prelude.{Option, Some}
use mathlib.Core.Path.{◌≡◌, refl, subst, sym, ap, ◌∙◌}
use mathlib.Core.Bool.{Bool, true, false}
use mathlib.Core.List.{List, [], ◌∷◌}
use mathlib.Core.Logic.{◌⊎◌, inl, inr, ◌≢◌}
use Prim.Native.Nat.{ℕ, ◌<◌}
use lib.Dec.{eqb}
use lib.ListN.{length, get_or, length-set}
use lib.Seq.{get_or-set_same, get_or-set_other}
use borrow.Author.Tests.{eqb-true, eqb-false, ne_eqb}
use Rattle.columns.specs.Common.{fold}
use Rattle.entries.specs.declared.Entry.{Entry}
use Rattle.entries.specs.Order.{entry_before}
use Rattle.percpu.specs.Cpu.{Cpu}
use Rattle.machine.specs.Machine.{Machine, context_at, cpu_at, no_cpu}
use Rattle.model.specs.State.{State, at, on_cpu}
use Rattle.model.specs.Steal.{Stealing, Moving, count_steal, first_wins, move_entry, published, mark_stealable, after_moving}
use Rattle.model.specs.Tidy.{Present}
use Rattle.model.proofs.Cases.{by_test, never, pick}
use Rattle.model.proofs.Lists.{In}
use Rattle.model.proofs.Sorted.{Sorted}
use Rattle.model.proofs.Queues.{Inv, inv_ext, on, Has, gone_of}
use Rattle.model.proofs.Before.{roles, queues, Free}
use Rattle.model.proofs.Chosen.{distinct}
use Rattle.model.proofs.Scanned.{Distinct}
use Rattle.model.proofs.Dequeued.{Winner}
use Rattle.model.proofs.Moving.{Moved, lot_moved}
use Rattle.model.proofs.CpuQueues.{queue_list, present_in_range, queue_set, on_on, on_own}

module _ (k : ℕ) (M : Machine) (runs : Bool) (locked : List ℕ) (w : Option ℕ) (C : State) where
  -- before anything is stolen
  abbrev pub start : Stealing
  start = record { state = on_cpu count_steal C; cpus = M.cpus; winner = w; done = false }

  -- what holds whoever is robbed
  pub record Kept (l : Stealing) : Type 0 where
    pub inv : Inv (Free M) M.contexts l.state.contexts (on k l.state.cpu.queue (queue_list l.cpus))
    pub winner : (x : ℕ) → l.winner ≡ Some x
        → Winner (Free M) M.contexts k (queues M) x l.state.contexts (on k l.state.cpu.queue (queue_list l.cpus))
    pub keeps : (x : ℕ) → w ≡ Some x → l.winner ≡ Some x
    pub has : (y : ℕ) → Has y (on k C.cpu.queue (queues M)) → Has y (on k l.state.cpu.queue (queue_list l.cpus)) ⊎ (l.winner ≡ Some y)
    pub status : (y : ℕ) → (at l.state y).status ≡ (at C y).status
    pub roles_kept : roles l.state.cpu ≡ roles C.cpu
    pub v : l.state.cpu.block.v ≡ C.cpu.block.v
    pub count : length l.cpus ≡ length M.cpus
    pub others : (i : ℕ) → i ≢ k → roles (get_or l.cpus i no_cpu) ≡ roles (cpu_at M i)
    pub absent : (i : ℕ) → (cpu_at M i).block.present ≡ false → queue_list l.cpus i ≡ queues M i

  -- entries of CPU t were stolen, e the first
  pub record Robbed (l : Stealing) (t : ℕ) (e : Entry) (es : List Entry) : Type 0 where
    pub other : t ≢ k
    pub present : Present M t
    pub sorted : Sorted entry_before (e ∷ es)
    pub from : (d : Entry) → In d (e ∷ es) → In d (queues M t)
    pub here : (d : Entry) → In d l.state.cpu.queue → In d C.cpu.queue ⊎ ((g : Entry) × In g (e ∷ es) × (g.context_ref ≡ d.context_ref))
    pub first : first_wins runs w ≡ true → l.winner ≡ Some e.context_ref
    pub second : first_wins runs w ≡ false → l.winner ≡ w
    pub kept : Kept l

  pub data StealResult (l : Stealing) : Type 0 where
    nothing : l ≡ start → StealResult l
    robbed : l.done ≡ true → (t : ℕ) (e : Entry) (es : List Entry) → Robbed l t e es → StealResult l

  module _ (n : Inv (Free M) M.contexts C.contexts (on k C.cpu.queue (queues M)))
      (win : (x : ℕ) → w ≡ Some x → Winner (Free M) M.contexts k (queues M) x C.contexts (on k C.cpu.queue (queues M))) where
    pub start_kept : Kept start
    unfolding cpu_at
    start_kept =
        record {
          inv = n;
          winner = win;
          keeps = λ x z. z;
          has = λ y h. inl h;
          status = λ y. refl;
          roles_kept = refl;
          v = refl;
          count = refl;
          others = λ i o. refl;
          absent = λ i z. refl;
        }

    module _ (t : ℕ) (o : t ≢ k) (pr : (get_or M.cpus t no_cpu).block.present ≡ true) (e : Entry) (es : List Entry)
        (s : Sorted entry_before (e ∷ es)) (from : (d : Entry) → In d (e ∷ es) → In d (queues M t))
        (live : (d : Entry) → In d (e ∷ es) → (context_at C.contexts d.context_ref).gone ≡ false) where
      v : Cpu
      v = get_or M.cpus t no_cpu

      abbrev pub m₀ : Moving
      m₀ = record { state = start.state; victim = get_or M.cpus t no_cpu; winner = w }

      abbrev pub m : Moving
      m = fold (move_entry runs) m₀ (e ∷ es)

      pub own_queue : (i : ℕ) → on k C.cpu.queue (on t (get_or M.cpus t no_cpu).queue (queues M)) i ≡ on k C.cpu.queue (queues M) i
      unfolding cpu_at
      own_queue = on_on k C.cpu.queue (on t (get_or M.cpus t no_cpu).queue (queues M)) (queues M) (on_own t (queues M))

      pub lot_live : (d : Entry) → In d (e ∷ es) → (context_at M.contexts d.context_ref).gone ≡ false
      lot_live d i = sym (gone_of (n.same d.context_ref)) ∙ live d i

      pub lot_distinct : Distinct (e ∷ es)
      lot_distinct = distinct (e ∷ es) s (λ d f i j z. (n.one d f t t (rw (ne_eqb t k o) (from d i)) (rw (ne_eqb t k o) (from f j)) z).0)

      -- before the first is moved
      pub lot_starts : Moved (Free M) M.contexts k t o (queues M) runs m₀ m₀ (e ∷ es) (e ∷ es)
      unfolding cpu_at
      lot_starts =
          record {
            inv = inv_ext (Free M) M.contexts C.contexts (on k C.cpu.queue (queues M)) _ own_queue n;
            rest = from;
            winner = λ x z. let y = win x z in
                record { range = y.range; live = y.live; out = λ d i g. y.out d i (rw (own_queue i) at g); free = y.free };
            keeps = λ x z. z;
            has = λ y h. inl h;
            status = λ y. refl;
            roles_kept = refl;
            victim_roles = refl;
            v = refl;
            here = λ d i. inl i;
          }

      moved : Moved (Free M) M.contexts k t o (queues M) runs m₀ m (e ∷ es) []
      moved = lot_moved (Free M) M.contexts k t o (queues M) runs m₀ m₀ (e ∷ es) (e ∷ es) (λ d i. i) lot_live lot_distinct lot_starts

      after : Stealing
      after = after_moving t M.cpus m

      pub r : t < length M.cpus
      r = present_in_range M.cpus t pr

      -- the queues that are left
      pub is_queue : (i : ℕ) → on k m.state.cpu.queue (queue_list (after_moving t M.cpus m).cpus) i
          ≡ on k m.state.cpu.queue (on t m.victim.queue (queues M)) i
      unfolding cpu_at
      is_queue =
          on_on k m.state.cpu.queue (queue_list (after_moving t M.cpus m).cpus) (on t m.victim.queue (queues M))
          (queue_set M.cpus t (mark_stealable (published m.victim)) r)

      pub kept_after : Kept (after_moving t M.cpus m)
      unfolding cpu_at
      kept_after =
          record {
            inv = inv_ext (Free M) M.contexts m.state.contexts (on k m.state.cpu.queue (on t m.victim.queue (queues M))) _ is_queue moved.inv;
            winner = λ x z. let y = moved.winner x z in
                record { range = y.range; live = y.live; out = λ d i g. y.out d i (rw (is_queue i) at g); free = y.free };
            keeps = moved.keeps;
            has = λ y (d, i, g, p). back y (moved.has y (d, i, rw (own_queue i) g, p));
            status = moved.status;
            roles_kept = moved.roles_kept;
            v = moved.v;
            count = length-set M.cpus t (mark_stealable (published m.victim));
            others = λ i z. by_test (eqb i t)
                (λ u. rw (eqb-true i t u, get_or-set_same M.cpus t (mark_stealable (published m.victim)) no_cpu r) moved.victim_roles)
                (λ u. rw (get_or-set_other M.cpus t i (mark_stealable (published m.victim)) no_cpu (eqb-false i t u)));
            absent = λ i z. by_test (eqb i t) (λ u. never pr (subst (λ j. (get_or M.cpus j no_cpu).block.present ≡ false) (eqb-true i t u) z))
                (λ u. ap (λ (c : Cpu). c.queue) (get_or-set_other M.cpus t i (mark_stealable (published m.victim)) no_cpu (eqb-false i t u)));
          }
        where
          back : (y : ℕ) → Has y (on k m.state.cpu.queue (on t m.victim.queue (queues M))) ⊎ (m.winner ≡ Some y)
              → Has y (on k m.state.cpu.queue (queue_list (after_moving t M.cpus m).cpus)) ⊎ (m.winner ≡ Some y)
          back y (inl (d, i, g, p)) = inl (d, i, rw (is_queue i) g, p)
          back y (inr z) = inr z

      -- the first of the lot wins, and stays the winner
      first_won : first_wins runs w ≡ true → m.winner ≡ Some e.context_ref
      unfolding move_entry
      first_won u = winner_stays (move_entry runs m₀ e) es e.context_ref (rw u)
        where
          winner_stays : (z : Moving) (ds : List Entry) (x : ℕ) → z.winner ≡ Some x → (fold (move_entry runs) z ds).winner ≡ Some x
          winner_stays z [] x p = p
          winner_stays z (d ∷ ds) x p =
              winner_stays (move_entry runs z d) ds x
              (pick (λ (y : Moving). y.winner ≡ Some x) (first_wins runs z.winner) (λ q. never {b = false} (rw p at q) refl) (λ q. p))

      -- where another runs none of the lot wins
      none_won : first_wins runs w ≡ false → m.winner ≡ w
      unfolding move_entry
      none_won u = same m₀ (e ∷ es) refl
        where
          same : (z : Moving) (ds : List Entry) → z.winner ≡ w → (fold (move_entry runs) z ds).winner ≡ w
          same z [] p = p
          same z (d ∷ ds) p =
              same (move_entry runs z d) ds
              (pick (λ (y : Moving). y.winner ≡ w) (first_wins runs z.winner) (λ q. never q (ap (first_wins runs) p ∙ u)) (λ q. p))

      pub result_after : StealResult (after_moving t M.cpus m)
      unfolding cpu_at
      result_after =
          robbed refl t e es
          (record { other = o; present = pr; sorted = s; from = from; here = moved.here; first = first_won; second = none_won; kept = kept_after })
