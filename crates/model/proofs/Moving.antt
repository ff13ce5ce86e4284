-- A stolen entry goes from the victim's queue to this CPU's, or wins.
use Rattle.std.specs.Prelude.{Some}
use mathlib.Core.Path.{◌≡◌, refl, subst, sym, ap, ◌∙◌}
use mathlib.Core.Bool.{Bool, true, false}
use mathlib.Core.List.{List, [], ◌∷◌}
use mathlib.Core.Logic.{◌⊎◌, inl, inr, ◌≢◌}
use Prim.Native.Nat.{ℕ}
use lib.Dec.{eqb}
use lib.ListN.{set, length-set}
use lib.Seq.{set-set}
use borrow.Author.Tests.{eqb-true, eqb-false}
use Rattle.columns.specs.Common.{fold}
use Rattle.context.specs.declared.Context.{Context}
use Rattle.entries.specs.declared.Entry.{Entry}
use Rattle.entries.specs.Order.{entry_before}
use Rattle.entries.specs.Queue.{queue_insert, queue_remove}
use Rattle.machine.specs.Machine.{context_at}
use Rattle.model.specs.State.{at}
use Rattle.model.specs.Steal.{give_up, Moving, moved, first_wins, move_entry}
use Rattle.model.proofs.Cases.{by_test, never, pick}
use Rattle.model.proofs.Lists.{All, In, all_at}
use Rattle.model.proofs.Sorted.{in_insert}
use Rattle.model.proofs.Queues.{Inv, fixed, set_view, on, Has, gone_of}
use Rattle.model.proofs.Moves.{inv_put, has_put, has_new, put_cases}
use Rattle.model.proofs.Before.{roles}
use Rattle.model.proofs.Dequeued.{Winner}
use Rattle.model.proofs.Scanned.{Distinct}
use Rattle.model.proofs.Firsts.{some_some}
use Rattle.model.proofs.Leaving.{Left, leaves}
use Rattle.percpu.specs.Cpu.{Cpu}
use Rattle.context.specs.Key.{with_new_key, entry_of}

-- a stolen entry leaves the victim's queue
given_up : (e : Entry) (v : Cpu) → (give_up e v).queue ≡ queue_remove e.key v.queue
given_up e v = refl

module _ (F : ℕ → Type 0) (cs₀ : List Context) (k t : ℕ) (other : t ≢ k) (R : ℕ → List Entry) (runs : Bool) where
  abbrev pub all_queues : Moving → ℕ → List Entry
  all_queues m = on k m.state.cpu.queue (on t m.victim.queue R)

  -- a: before the first was moved; es: those to come; all: the whole lot
  pub record Moved (a m : Moving) (all es : List Entry) : Type 0 where
    pub inv : Inv F cs₀ m.state.contexts (all_queues m)
    pub rest : (d : Entry) → In d es → In d m.victim.queue
    pub winner : (x : ℕ) → m.winner ≡ Some x → Winner F cs₀ k R x m.state.contexts (all_queues m)
    pub keeps : (x : ℕ) → a.winner ≡ Some x → m.winner ≡ Some x
    pub has : (y : ℕ) → Has y (all_queues a) → Has y (all_queues m) ⊎ (m.winner ≡ Some y)
    pub status : (y : ℕ) → (at m.state y).status ≡ (at a.state y).status
    pub roles_kept : roles m.state.cpu ≡ roles a.state.cpu
    pub victim_roles : roles m.victim ≡ roles a.victim
    pub v : m.state.cpu.block.v ≡ a.state.cpu.block.v
    pub here : (d : Entry) → In d m.state.cpu.queue → In d a.state.cpu.queue ⊎ ((g : Entry) × In g all × (g.context_ref ≡ d.context_ref))

  module _ (a m : Moving) (all : List Entry) (e : Entry) (es : List Entry) (n : Moved a m all (e ∷ es)) (e-all : In e all)
      (live : (context_at cs₀ e.context_ref).gone ≡ false) (apart : All (λ d. d.context_ref ≢ e.context_ref) es) where
    abbrev c : Context
    c = moved m.state.cpu.block.v m.victim.block.v e.weight (at m.state e.context_ref)

    abbrev ds : List Context
    ds = set m.state.contexts e.context_ref c

    abbrev left : List Entry
    left = queue_remove e.key m.victim.queue

    gone_there : Left F cs₀ m.state.contexts k t other m.state.cpu.queue m.victim.queue R e c
    gone_there = leaves F cs₀ m.state.contexts k t other m.state.cpu.queue m.victim.queue R e c n.inv (n.rest e (inl refl)) refl refl

    rest_left : (d : Entry) → In d es → In d left
    rest_left d i = gone_there.still d (n.rest d (inr i)) (all_at _ es apart d i)

    status_set : (d : Context) → d.status ≡ (at m.state e.context_ref).status → (y : ℕ)
        → (context_at (set m.state.contexts e.context_ref d) y).status ≡ (at a.state y).status
    status_set d z y = set_view (λ (b : Context). b.status) m.state.contexts e.context_ref d z y ∙ n.status y

    -- the first stolen wins
    first : first_wins runs m.winner ≡ true → (m' : Moving) → m'.state.contexts ≡ ds → m'.state.cpu.queue ≡ m.state.cpu.queue
        → m'.victim.queue ≡ left → m'.winner ≡ Some e.context_ref → roles m'.state.cpu ≡ roles m.state.cpu → roles m'.victim ≡ roles m.victim
        → m'.state.cpu.block.v ≡ m.state.cpu.block.v → Moved a m' all es
    first t₁ m' e₁ e₂ e₃ e₄ e₅ e₆ e₇ =
        record {
          inv = rw (e₁, e₂, e₃) gone_there.inv;
          rest = λ d i. rw e₃ (rest_left d i);
          winner = λ y z. subst (λ w. Winner F cs₀ k R w m'.state.contexts (all_queues m')) (some_some (sym e₄ ∙ z)) won;
          keeps = λ y z. never {b = false} (rw (n.keeps y z) at t₁) refl;
          has = λ y h. stays y (n.has y h);
          status = λ y. rw e₁ (status_set c refl y);
          roles_kept = e₅ ∙ n.roles_kept;
          victim_roles = e₆ ∙ n.victim_roles;
          v = e₇ ∙ n.v;
          here = λ d i. n.here d (rw e₂ at i);
        }
      where
        won : Winner F cs₀ k R e.context_ref m'.state.contexts (all_queues m')
        won =
            rw (e₁, e₂, e₃)
            (record { range = gone_there.range; live = gone_of (gone_there.inv.same e.context_ref) ∙ live; out = gone_there.out; free = n.inv.free e t gone_there.was_in })

        stays : (y : ℕ) → Has y (all_queues m) ⊎ (m.winner ≡ Some y) → Has y (all_queues m') ⊎ (m'.winner ≡ Some y)
        stays y (inl h) =
            by_test (eqb y e.context_ref) (λ z. inr (e₄ ∙ ap Some (sym (eqb-true y e.context_ref z))))
            (λ z. inl (rw (e₂, e₃) (gone_there.has y (eqb-false y e.context_ref z) h)))
        stays y (inr z) = never {b = false} (rw z at t₁) refl

    abbrev entry : Entry
    entry = entry_of e.context_ref e.weight c

    own₁ : entry.key.ctxt_id ≡ (context_at ds e.context_ref).debug_id
    own₁ = sym (ap (λ (b : Context). b.debug_id) gone_there.is_c)

    -- it is queued here
    queued : (m' : Moving) → m'.state.contexts ≡ set m.state.contexts e.context_ref (with_new_key c)
        → m'.state.cpu.queue ≡ queue_insert entry m.state.cpu.queue → m'.victim.queue ≡ left → m'.winner ≡ m.winner
        → roles m'.state.cpu ≡ roles m.state.cpu → roles m'.victim ≡ roles m.victim
        → m'.state.cpu.block.v ≡ m.state.cpu.block.v → Moved a m' all es
    queued m' e₁ e₂ e₃ e₄ e₅ e₆ e₇ =
        record {
          inv = rw (e₁, e₂, e₃) put;
          rest = λ d i. rw e₃ (rest_left d i);
          winner = λ y z. rw (e₁, e₂, e₃) (still y (n.winner y (sym e₄ ∙ z)));
          keeps = λ y z. e₄ ∙ n.keeps y z;
          has = λ y h. rw (e₂, e₃, e₄) (stays y (n.has y h));
          status = λ y. rw e₁ (status_set (with_new_key c) refl y);
          roles_kept = e₅ ∙ n.roles_kept;
          victim_roles = e₆ ∙ n.victim_roles;
          v = e₇ ∙ n.v;
          here = λ d i. came d (in_insert entry_before entry d m.state.cpu.queue (rw e₂ at i));
        }
      where
        put : Inv F cs₀ (set m.state.contexts e.context_ref (with_new_key c)) (on k (queue_insert entry m.state.cpu.queue) (on t left R))
        put =
            subst (λ l. Inv F cs₀ l (on k (queue_insert entry m.state.cpu.queue) (on t left R))) (set-set m.state.contexts e.context_ref c (with_new_key c))
            (inv_put F cs₀ ds k m.state.cpu.queue (on t left R) gone_there.inv e.context_ref entry gone_there.range own₁ refl gone_there.out (with_new_key c)
            (subst (λ b. fixed (with_new_key c) ≡ fixed b) (sym gone_there.is_c) refl)
            (record { has_key = refl; key_vd = refl; key_rem_slice = refl; key_id = refl; vd = refl; rem_slice = refl; vtime = refl }) (n.inv.free e t gone_there.was_in))

        still : (y : ℕ) → Winner F cs₀ k R y m.state.contexts (all_queues m)
            → Winner F cs₀ k R y (set m.state.contexts e.context_ref (with_new_key c)) (on k (queue_insert entry m.state.cpu.queue) (on t left R))
        still y w =
            record {
              range = rw (length-set m.state.contexts e.context_ref (with_new_key c)) w.range;
              live = gone_of (put.same y ∙ sym (n.inv.same y)) ∙ w.live;
              out = λ d i g. gone d i (put_cases F cs₀ ds k m.state.cpu.queue (on t left R) gone_there.inv e.context_ref entry gone_there.range own₁ refl gone_there.out d i g);
              free = w.free;
            }
          where
            gone : (d : Entry) (i : ℕ) → ((d ≡ entry) × (i ≡ k)) ⊎ In d (on k m.state.cpu.queue (on t left R) i) → d.context_ref ≢ y
            gone d i (inl (p, z)) u = w.out e t gone_there.was_in (sym (ap (λ (b : Entry). b.context_ref) p) ∙ u)
            gone d i (inr g) u = w.out d i (gone_there.subset d i g) u

        stays : (y : ℕ) → Has y (all_queues m) ⊎ (m.winner ≡ Some y) → Has y (on k (queue_insert entry m.state.cpu.queue) (on t left R)) ⊎ (m.winner ≡ Some y)
        stays y (inl h) =
            by_test (eqb y e.context_ref)
            (λ z. inl (subst (λ w. Has w (on k (queue_insert entry m.state.cpu.queue) (on t left R))) (sym (eqb-true y e.context_ref z))
            (has_new F cs₀ ds k m.state.cpu.queue (on t left R) gone_there.inv e.context_ref entry gone_there.range own₁ refl gone_there.out)))
            (λ z. inl (has_put F cs₀ ds k m.state.cpu.queue (on t left R) gone_there.inv e.context_ref entry gone_there.range own₁ refl gone_there.out y
            (gone_there.has y (eqb-false y e.context_ref z) h)))
        stays y (inr z) = inr z

        came : (d : Entry) → (d ≡ entry) ⊎ In d m.state.cpu.queue
            → In d a.state.cpu.queue ⊎ ((g : Entry) × In g all × (g.context_ref ≡ d.context_ref))
        came d (inl p) = inr (e, e-all, sym (ap (λ (b : Entry). b.context_ref) p))
        came d (inr i) = n.here d i

    pub move_moved : Moved a (move_entry runs m e) all es
    unfolding move_entry
    move_moved =
        pick (λ (z : Moving). Moved a z all es) (first_wins runs m.winner) (λ u. first u _ refl refl (given_up e m.victim) refl refl refl refl)
        (λ u. queued _ refl refl (given_up e m.victim) refl refl refl refl)

  -- the whole lot
  pub lot_moved : (a m : Moving) (all es : List Entry) → ((d : Entry) → In d es → In d all) → ((d : Entry) → In d es → (context_at cs₀ d.context_ref).gone ≡ false)
      → Distinct es → Moved a m all es → Moved a (fold (move_entry runs) m es) all []
  lot_moved a m all [] s l d n = n
  lot_moved a m all (e ∷ es) s l d n =
      lot_moved a (move_entry runs m e) all es (λ g i. s g (inr i)) (λ g i. l g (inr i)) d.1
      (move_moved a m all e es n (s e (inl refl)) (l e (inl refl)) d.0)
