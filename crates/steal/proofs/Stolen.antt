-- The stealing as a whole. Assumes nothing.
use Rattle.std.specs.Prelude.{Option, None, is_some}
use mathlib.Core.Path.{◌≡◌, refl, sym, ap, ◌∙◌, subst}
use mathlib.Core.Bool.{Bool, true, false}
use mathlib.Core.List.{List, [], ◌∷◌}
use mathlib.Core.Logic.{◌≢◌}
use Prim.Native.Nat.{ℕ, ◌%◌, ◌<◌}
use native.Mathlib.Omega.{arith}
use lib.Dec.{eqb}
use lib.ListN.{set}
use lib.Seq.{get_or-set_other, set-set}
use Rattle.columns.specs.Common.{fold}
use Rattle.entries.specs.declared.Entry.{Entry}
use Rattle.percpu.specs.declared.PercpuBlock.{PercpuBlock}
use Rattle.percpu.specs.Cpu.{Cpu}
use Rattle.machine.specs.Machine.{Machine, cpu_at, no_cpu}
use Rattle.machine.specs.Encode.{encode}
use Rattle.machine.specs.Shape.{Fits}
use Rattle.machine.proofs.Steps.{get_d_set}
use Rattle.model.specs.State.{State, state_of, on_cpu}
use Rattle.model.specs.Steal.{Stealing, Moving, count_steal, should_steal, move_entry, after_moving, targets, steal_entries, steal_from, steal}
use Rattle.stages.specs.Stage.{Staged, Ranged, CpuBelow, put_state}
use Rattle.stages.proofs.Compose.{state_put}
use Rattle.steal_judge.specs.declared.Locked.{Locked}
use Rattle.steal_judge.specs.Names.{locked_of, entries_of}
use Rattle.steal_judge.specs.Judged.{interval}
use Rattle.steal.specs.declared.search.Victim.{Victim}
use Rattle.steal.specs.Search.{Begins, Found, Searched}
use Rattle.steal.specs.Moves.{moving_of, put_moving, Moves, finished, machine_of, StealsAt, Steals}
use Rattle.steal.proofs.Below.{below_counted}
use Rattle.steal.proofs.Victims.{set_other}

pub due_is : (s : State) (w : Option ℕ) (b : PercpuBlock) {some r : Bool} → b ≡ s.cpu.block → some ≡ is_some w
    → r ≡ eqb (b.steal_counter % interval (eqb b.sched_ctxt b.idle_ctxt) some) 0 → r ≡ should_steal s w
due_is s w b e z h = h ∙ rw (z, e)

-- the counter is stored: k's state, and the machine then
module _ {c n k : ℕ} {m m1 : List ℕ} (h : k < c) (a : Staged c n k m m1 false (λ (s : State). on_cpu (λ (p : Cpu). count_steal p) s)) where
  pub counted_ranged : {t b : ℕ} → Ranged c n t b m → Ranged c n t b m1
  unfolding cpu_at
  counted_ranged {t} {b} r =
      let p = a.stage r.M r.eq r.fits in
      record {
        M = _;
        eq = p.after refl;
        fits = p.fits refl;
        below = record {
          context = r.below.context;
          cpu = λ j l. get_d_set r.M.cpus k j (count_steal (cpu_at r.M k)) no_cpu (CpuBelow t b) (below_counted _ (r.below.cpu k h)) (r.below.cpu j l);
        };
      }

  module _ (w : Option ℕ) where
    abbrev start : Machine → Stealing
    start M = record { state = on_cpu count_steal (state_of k M); cpus = M.cpus; winner = w; done = false }

    abbrev counted : Machine → Machine
    counted M = put_state k (on_cpu count_steal (state_of k M)) M

    start_state : (M : Machine) → Fits c n M → state_of k (counted M) ≡ on_cpu count_steal (state_of k M)
    start_state M o = state_put k (on_cpu count_steal (state_of k M)) M (omega (arith, o.cpus)) refl

    begins : (M : Machine) → Fits c n M → Begins c k (counted M) w (start M)
    unfolding cpu_at
    begins M o =
        record {
          state = sym (start_state M o);
          others = λ t d. sym (get_or-set_other M.cpus k t (count_steal (cpu_at M k)) no_cpu d);
          winner = refl;
          done = refl;
        }

    at_start : (M : Machine) → m ≡ encode M → Fits c n M → StealsAt c n k m1 false w (start M)
    at_start M e o = let p = a.stage M e o in record { room = refl; after = p.after; fits = p.fits; winner = λ z. refl }

    module _ (runs : Bool) (locked : Locked) where
      abbrev all : Machine → Stealing
      all M = steal k runs (locked_of locked) M.cpus w (state_of k M)

      -- stealing is not due
      pub not_due : {r : Bool} → ((M : Machine) → m ≡ encode M → Fits c n M → r ≡ should_steal (state_of k M) w) → r ≡ false → Steals c n k m m1 false w all
      unfolding steal
      not_due d z =
          record {
            image = a.image;
            steals = λ M e o. let y : should_steal (state_of k M) w ≡ false = sym (d M e o) ∙ z in subst (StealsAt c n k m1 false w) (rw y) (at_start M e o);
          }

      module _ {r : Bool} (d : (M : Machine) → m ≡ encode M → Fits c n M → r ≡ should_steal (state_of k M) w) (z : r ≡ true) where
        -- the search, which is due
        due_is_so : (M : Machine) → m ≡ encode M → Fits c n M → all M ≡ fold (steal_from k runs (locked_of locked)) (start M) (targets k c)
        unfolding steal
        due_is_so M e o = let y : should_steal (state_of k M) w ≡ true = sym (d M e o) ∙ z in rw (y, o.cpus)

        pub nothing_stolen : Searched c n k m1 w locked None → Steals c n k m m1 false w all
        nothing_stolen s =
            record {
              image = a.image;
              steals = λ M e o.
                  let p = a.stage M e o in
                  subst (StealsAt c n k m1 false w) (sym (due_is_so M e o ∙ s (counted M) (p.after refl) (p.fits refl) runs (start M) (begins M o))) (at_start M e o);
            }

        entries_as : (l : Stealing) (t : ℕ) (p : Cpu) (es : List Entry) → (es ≡ [] → ⊥) → steal_entries runs l t p es ≡ after_moving t l.cpus (fold (move_entry runs) (record { state = l.state; victim = p; winner = l.winner }) es)
        unfolding steal_entries
        entries_as l t p [] q = absurd (q refl)
        entries_as l t p (x ∷ xs) q = refl

        module _ (v : Victim) (s : Found c n k m1 w locked v) where
          all_is : (M : Machine) → m ≡ encode M → Fits c n M → all M ≡ steal_entries runs (start M) v.cpu (cpu_at (counted M) v.cpu) (entries_of v.got)
          all_is M e o = let p = a.stage M e o in due_is_so M e o ∙ s.is (counted M) (p.after refl) (p.fits refl) runs (start M) (begins M o)

          -- the machine after the moves
          machine_as : (M : Machine) (u : Moving) → v.cpu ≢ k → put_moving k v.cpu (finished u) (counted M) ≡ machine_of k (after_moving v.cpu M.cpus u)
          machine_as M u o =
              ap (λ (l : List Cpu). record { contexts = u.state.contexts; cpus = l })
              (ap (λ (l : List Cpu). set l k (finished u).state.cpu) (set_other M.cpus k v.cpu (count_steal (cpu_at M k)) (finished u).victim o)
              ∙ set-set (set M.cpus v.cpu (finished u).victim) k (count_steal (cpu_at M k)) (finished u).state.cpu)

          pub robbed : {m2 : List ℕ} {full : Bool} {w' : Option ℕ} → Moves c n k v.cpu m1 m2 full w w' (λ (u : Moving). finished (fold (move_entry runs) u (entries_of v.got))) → Steals c n k m m2 full w' all
          robbed {m2} {full} {w'} g =
              record {
                image = g.image;
                steals = λ M e o.
                    let p = a.stage M e o in
                    let b = g.moves (counted M) (p.after refl) (p.fits refl) in
                    let u : Moving = fold (move_entry runs) (moving_of k v.cpu w (counted M)) (entries_of v.got) in
                    let y : all M ≡ after_moving v.cpu M.cpus u =
                    all_is M e o ∙ entries_as (start M) v.cpu (cpu_at (counted M) v.cpu) (entries_of v.got) s.some
                    ∙ ap (λ (x : State). after_moving v.cpu M.cpus (fold (move_entry runs) (record { state = x; victim = cpu_at (counted M) v.cpu; winner = w }) (entries_of v.got))) (sym (start_state M o)) in
                    let x : put_moving k v.cpu (finished u) (counted M) ≡ machine_of k (after_moving v.cpu M.cpus u) = machine_as M u s.other in
                    subst (StealsAt c n k m2 full w') (sym y)
                    (record {
                      room = b.room;
                      after = λ i. b.after i ∙ ap encode x;
                      fits = λ i. subst (Fits c n) x (b.fits i);
                      winner = b.winner;
                    });
              }
