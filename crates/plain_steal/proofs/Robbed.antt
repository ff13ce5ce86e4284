-- CPUs by their numbers, and the victim robbed, in the code's words. Assumes nothing.
use Rattle.std.proofs.Common.{◌≡◌, ℕ, zero, suc, ◌<◌, Bool, true, ◌≢◌, List, [], ◌∷◌, map, length, take, set, sym, refl, ap, ◌∙◌, subst, arith, length-set}
use Rattle.columns.specs.Common.{fold, All}
use Rattle.entries.specs.declared.Entry.{Entry}
use Rattle.percpu.specs.Cpu as percpu
use Rattle.model.specs.State as model
use Rattle.model.specs.State.{on_cpu}
use Rattle.model.specs.Steal as model_steal
use Rattle.model.specs.Steal.{published, mark_stealable}
use Rattle.plain_model.specs.Steal.{move_entry, steal_entries}
use Rattle.plain_lists.specs.Lists.{Queue, entries_of, Sized}
use Rattle.plain_lists.proofs.Listing.{length_items}
use Rattle.plain_lists.proofs.Arrays.{take_set}
use Rattle.plain_state.specs.declared.Cpu.{Cpu}
use Rattle.plain_state.specs.declared.State.{State}
use Rattle.plain_state.specs.States.{cpu_in, state_in, Became}
use Rattle.plain_moves.specs.declared.Moving.{Moving}
use Rattle.plain_moves.specs.Moves.{CpuSound, CpuBecame, moving_in, MovingTracks}
use Rattle.plain_steal.specs.declared.cpus.Cpus.{Cpus}
use Rattle.plain_steal.specs.declared.Stealing.{Stealing}
use Rattle.plain_steal.specs.Stealing.{cpus_in, CpusSound, CpusBecame, stealing_in, StealingSound, StealingTracks}

-- a CPU read and stored
map_set : (l : List Cpu) (j : ℕ) (p : Cpu) → map cpu_in (set l j p) ≡ set (map cpu_in l) j (cpu_in p)
map_set [] j p = refl
map_set (q ∷ l) zero p = refl
map_set (q ∷ l) (suc j) p = ap (λ (z : List percpu.Cpu). cpu_in q ∷ z) (map_set l j p)

pub all_set : {A : Type 0} (P : A → Type 0) (l : List A) (j : ℕ) (p : A) → All P l → P p → All P (set l j p)
all_set P [] j p a o = tt
all_set P (q ∷ l) zero p a o = (o, a.1)
all_set P (q ∷ l) (suc j) p a o = (a.0, all_set P l j p a.1 o)

module _ (c : ℕ) (x : Cpus) (o : CpusSound c x) (j : ℕ) (h : j < c) where
  pub cpu_put : (p : Cpu) → CpuSound p → CpusBecame c (record { cpus = set x.cpus j p }) (set (cpus_in c x) j (cpu_in p))
  cpu_put p s =
      record {
        sound = record { few = o.few; places = length-set x.cpus j p ∙ o.places; each = all_set CpuSound x.cpus j p o.each s };
        is = ap (map cpu_in) (take_set x.cpus c j p) ∙ map_set (take c x.cpus) j p;
      }

-- the state of the stealing as it is
pub steals_itself : (n c : ℕ) (l : Stealing) → StealingSound n c l → StealingTracks n c l (stealing_in n c l)
steals_itself n c l o = record { sound = o; room = refl; done = refl; is = λ z. refl }

pub steals_as : {n c : ℕ} {r : Stealing} {L M : model_steal.Stealing} → L ≡ M → StealingTracks n c r L → StealingTracks n c r M
steals_as {n} {c} {r} e t = subst (StealingTracks n c r) e t

empty_list : (l : List Entry) → length l ≡ 0 → l ≡ []
empty_list [] e = refl
empty_list (x ∷ l) e = absurd (omega arith)

-- from CPU t, which is v
module _ (n c t : ℕ) (runs : Bool) (l : Stealing) (v : Cpu) (es : Queue) where
  pub nothing_stolen : StealingSound n c l → Sized es → es.len ≡ 0 → StealingTracks n c l (steal_entries runs (stealing_in n c l) t (cpu_in v) (entries_of es))
  unfolding steal_entries
  nothing_stolen o s h =
      let e : entries_of es ≡ [] = empty_list (entries_of es) (length_items es s ∙ h) in
      steals_as (sym (ap (steal_entries runs (stealing_in n c l) t (cpu_in v)) e)) (steals_itself n c l o)

  abbrev begin : model_steal.Moving
  begin = record { state = state_in n l.state; victim = cpu_in v; winner = l.winner }

  abbrev finished : model_steal.Moving → model_steal.Stealing
  finished m = record { state = on_cpu published m.state; cpus = set (cpus_in c l.cpus) t (mark_stealable (published m.victim)); winner = m.winner; done = true }

  robbed_is : (xs : List Entry) → (length xs ≡ 0 → ⊥) → finished (fold (move_entry runs) begin xs) ≡ steal_entries runs (stealing_in n c l) t (cpu_in v) xs
  unfolding steal_entries
  robbed_is [] h = absurd (h refl)
  robbed_is (x ∷ xs) h = refl

  pub some_robbed : {m : Moving} {here : State} {there : Cpu} {after : Cpus} → Sized es → es.len ≢ 0 → MovingTracks n m (fold (move_entry runs) begin (entries_of es))
      → Became n here (on_cpu published (state_in n m.state)) → CpuBecame there (mark_stealable (published (cpu_in m.victim))) → CpusBecame c after (set (cpus_in c l.cpus) t (cpu_in there))
      → StealingTracks n c (record { state = here; cpus = after; winner = m.winner; done = true }) (steal_entries runs (stealing_in n c l) t (cpu_in v) (entries_of es))
  some_robbed {m} {here} {there} {after} s h a b d e =
      let M : model_steal.Moving = fold (move_entry runs) begin (entries_of es) in
      steals_as {L = finished M} (robbed_is (entries_of es) (λ y. h (sym (length_items es s) ∙ y)))
      (record {
        sound = record { state = b.sound; cpus = e.sound };
        room = ap (λ (y : model.State). y.no_room) b.is ∙ a.room;
        done = refl;
        is =
            λ k.
            let p : moving_in n m ≡ M = a.is k in
            let q : state_in n here ≡ on_cpu published M.state = b.is ∙ ap (λ (y : model_steal.Moving). on_cpu published y.state) p in
            let f : cpus_in c after ≡ set (cpus_in c l.cpus) t (mark_stealable (published M.victim))
            = e.is ∙ ap (set (cpus_in c l.cpus) t) (d.is ∙ ap (λ (y : model_steal.Moving). mark_stealable (published y.victim)) p) in
            λ i. record { state = q i; cpus = f i; winner = (p i).winner; done = true };
      })
