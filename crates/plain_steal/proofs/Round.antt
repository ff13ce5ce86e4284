-- Every other CPU in its turn, in the code's words. Assumes nothing.
use Rattle.std.proofs.Common.{◌≡◌, ℕ, ◌+◌, ◌-◌, ◌%◌, ◌<◌, ◌≤◌, Bool, true, false, List, [], ◌∷◌, length, get_or, take, sym, refl, ap, ◌∙◌, subst, arith, length-take, take_all}
use lib.ListN.{length-map}
use Rattle.columns.specs.Common.{fold, All}
use Rattle.columns.proofs.Tabulate.{length_tabulate, get_d_tabulate}
use Rattle.entries.specs.declared.Entry.{Entry}
use Rattle.percpu.specs.Cpu as percpu
use Rattle.machine.specs.Machine.{no_cpu}
use Rattle.machine.specs.Shape.{EntryFits}
use Rattle.model.specs.Steal as model_steal
use Rattle.model.specs.Steal.{can_steal_from, want}
use Rattle.model.proofs.Cases.{by_test, never}
use Rattle.plain_model.specs.Steal.{candidates, targets, steal_entries, steal_from}
use Rattle.plain_lists.specs.Lists.{Queue}
use Rattle.plain_lists.specs.Lists.{entries_of, Stands}
use Rattle.plain_lists.proofs.Listing.{length_items}
use Rattle.plain_state.specs.declared.Cpu.{Cpu}
use Rattle.plain_state.specs.States.{cpu_in, state_in}
use Rattle.plain_candidates.proofs.Gathered.{candidates_few, candidates_each}
use Rattle.plain_lists.proofs.Folds.{fold_next, all_get_d}
use Rattle.plain_moves.specs.Moves.{CpuBecame}
use Rattle.plain_steal.specs.declared.Stealing.{Stealing}
use Rattle.plain_steal.specs.Stealing.{cpus_in, CpusSound, stealing_in, StealingSound, StealingTracks, Robs, some_stolen}
use Rattle.plain_steal.proofs.Robbed.{steals_as, steals_itself}

-- a victim that has enough
module _ (n c k t : ℕ) (runs : Bool) (locked : List ℕ) (l : Stealing) (v : Cpu) {wanted : ℕ} {es : Queue} (hw : wanted ≡ want (state_in n l.state) (cpu_in v))
    (he : Stands es (candidates k locked (state_in n l.state).contexts l.winner wanted (entries_of v.queue))) where
  pub few_wanted : wanted ≤ 2 → es.len ≤ 2
  few_wanted h =
      let a : length (entries_of es) ≡ es.len = length_items es he.sized in
      let b : length (candidates k locked (state_in n l.state).contexts l.winner wanted (entries_of v.queue)) ≤ wanted
      = candidates_few k locked (state_in n l.state).contexts l.winner wanted (entries_of v.queue) in
      let d : length (entries_of es) ≤ wanted = subst (λ (x : List Entry). length x ≤ wanted) (sym he.is) b in
      omega arith

  pub each_wanted : All (EntryFits n) (entries_of v.queue) → All (EntryFits n) (entries_of es)
  each_wanted a =
      subst (All (EntryFits n)) (sym he.is) (candidates_each k locked (state_in n l.state).contexts l.winner wanted (EntryFits n) (entries_of v.queue) a)

-- the definition
module _ (k : ℕ) (runs : Bool) (locked : List ℕ) where
  done_still : (L : model_steal.Stealing) (t : ℕ) → L.done ≡ true → steal_from k runs locked L t ≡ L
  unfolding steal_from
  done_still L t h = rw h

  from_victim : (L : model_steal.Stealing) (t : ℕ) → L.done ≡ false → can_steal_from L.state (get_or L.cpus t no_cpu) ≡ true
      → some_stolen k runs locked L t (get_or L.cpus t no_cpu) ≡ steal_from k runs locked L t
  unfolding steal_from
  from_victim L t d h = rw (d, h)

  from_nobody : (L : model_steal.Stealing) (t : ℕ) → L.done ≡ false → can_steal_from L.state (get_or L.cpus t no_cpu) ≡ false → L ≡ steal_from k runs locked L t
  unfolding steal_from
  from_nobody L t d h = rw (d, h)

  entries_fresh : (L : model_steal.Stealing) (t : ℕ) (v : percpu.Cpu) (es : List Entry) → (steal_entries runs L t v es).done ≡ false → steal_entries runs L t v es ≡ L
  unfolding steal_entries
  entries_fresh L t v [] h = refl
  entries_fresh L t v (e ∷ es) h = never refl h

  from_fresh : (L : model_steal.Stealing) (t : ℕ) → (steal_from k runs locked L t).done ≡ false → steal_from k runs locked L t ≡ L
  from_fresh L t h =
      by_test L.done (λ d. done_still L t d)
      (λ d.
      by_test (can_steal_from L.state (get_or L.cpus t no_cpu))
      (λ e. let y = from_victim L t d e in sym y ∙ entries_fresh L t (get_or L.cpus t no_cpu) _ (ap (λ (x : model_steal.Stealing). x.done) y ∙ h))
      (λ e. sym (from_nobody L t d e)))

  -- nothing has changed until a victim is found
  fold_fresh : (L : model_steal.Stealing) (ts : List ℕ) → (fold (steal_from k runs locked) L ts).done ≡ false → fold (steal_from k runs locked) L ts ≡ L
  fold_fresh L [] h = refl
  fold_fresh L (t ∷ ts) h =
      let a : fold (steal_from k runs locked) (steal_from k runs locked L t) ts ≡ steal_from k runs locked L t = fold_fresh (steal_from k runs locked L t) ts h in
      a ∙ from_fresh L t (sym (ap (λ (x : model_steal.Stealing). x.done) a) ∙ h)

  -- in the code's words
  module _ (n c t : ℕ) (l : Stealing) where
    pub done_before : StealingSound n c l → l.done ≡ true → StealingTracks n c l (steal_from k runs locked (stealing_in n c l) t)
    done_before o h = steals_as (sym (done_still (stealing_in n c l) t h)) (steals_itself n c l o)

    module _ {v : Cpu} {b : Bool} (hv : CpuBecame v (get_or (cpus_in c l.cpus) t no_cpu)) (hb : b ≡ can_steal_from (state_in n l.state) (cpu_in v)) (d : l.done ≡ false) where
      judged : b ≡ can_steal_from (state_in n l.state) (get_or (cpus_in c l.cpus) t no_cpu)
      judged = hb ∙ ap (can_steal_from (state_in n l.state)) hv.is

      pub victim_robbed : {r : Stealing} → b ≡ true → StealingTracks n c r (some_stolen k runs locked (stealing_in n c l) t (cpu_in v)) → StealingTracks n c r (steal_from k runs locked (stealing_in n c l) t)
      victim_robbed h s = steals_as (ap (some_stolen k runs locked (stealing_in n c l) t) hv.is ∙ from_victim (stealing_in n c l) t d (sym judged ∙ h)) s

      pub nobody_robbed : b ≡ false → StealingSound n c l → StealingTracks n c l (steal_from k runs locked (stealing_in n c l) t)
      nobody_robbed h o = steals_as (from_nobody (stealing_in n c l) t d (sym judged ∙ h)) (steals_itself n c l o)

    pub victim_fits : {v : Cpu} → t < c → CpusSound c l.cpus → CpuBecame v (get_or (cpus_in c l.cpus) t no_cpu) → Robs n (stealing_in n c l) → All (EntryFits n) (entries_of v.queue)
    victim_fits {v} h g b o =
        let x : length l.cpus.cpus ≡ 4 = g.places in
        let y : c ≤ 4 = g.few in
        let m : length (cpus_in c l.cpus) ≡ c = rw (length-map (take c l.cpus.cpus) cpu_in, length-take c l.cpus.cpus) (omega arith) in
        subst (λ (p : percpu.Cpu). All (EntryFits n) p.queue) (sym b.is)
        (all_get_d (λ (p : percpu.Cpu). All (EntryFits n) p.queue) (cpus_in c l.cpus) t no_cpu (omega arith) o.entries)

  -- a step after what may have found no room
  steals_then : (n c t : ℕ) {l r : Stealing} {L : model_steal.Stealing} → (L.done ≡ false → L.state.no_room ≡ false) → StealingTracks n c l L
      → StealingTracks n c r (steal_from k runs locked (stealing_in n c l) t) → StealingTracks n c r (steal_from k runs locked L t)
  steals_then n c t {l} {r} {L} f a b =
      by_test L.done
      (λ h.
      let y : StealingTracks n c r (stealing_in n c l) = steals_as (done_still (stealing_in n c l) t (a.done ∙ h)) b in
      steals_as (sym (done_still L t h))
      (record { sound = y.sound; room = y.room ∙ a.room; done = y.done ∙ a.done; is = λ z. y.is (a.room ∙ z) ∙ a.is z }))
      (λ h. subst (λ (x : model_steal.Stealing). StealingTracks n c r (steal_from k runs locked x t)) (a.is (f h)) b)

  -- l: after the first i CPUs, from L
  pub record Rounding (n c : ℕ) (L : model_steal.Stealing) (l : Stealing) (i : ℕ) : Type 0 where
    pub some : k < c
    pub few : c ≤ 4
    pub fresh : L.state.no_room ≡ false
    pub robs : Robs n L
    pub tracks : StealingTracks n c l (fold (steal_from k runs locked) L (take i (targets k c)))

  module _ (n c : ℕ) (L : model_steal.Stealing) (l : Stealing) (i : ℕ) (r : Rounding n c L l i) (h : i < c - 1) where
    abbrev M : model_steal.Stealing
    M = fold (steal_from k runs locked) L (take i (targets k c))

    still : M.done ≡ false → M.state.no_room ≡ false
    still d = ap (λ (x : model_steal.Stealing). x.state.no_room) (fold_fresh L (take i (targets k c)) d) ∙ r.fresh

    pub still_robs : l.done ≡ false → Robs n (stealing_in n c l)
    still_robs d =
        let e : M.done ≡ false = sym r.tracks.done ∙ d in
        subst (Robs n) (sym (r.tracks.is (still e) ∙ fold_fresh L (take i (targets k c)) e)) r.robs

    pub rounds_on : {q : Stealing} → StealingTracks n c q (steal_from k runs locked (stealing_in n c l) ((k + (i + 1)) % c)) → Rounding n c L q (i + 1)
    unfolding targets
    rounds_on {q} s =
        let a : length (targets k c) ≡ c - 1 = length_tabulate (c - 1) (λ (j : ℕ). (k + (j + 1)) % c) in
        let b : get_or (targets k c) i 0 ≡ (k + (i + 1)) % c = get_d_tabulate (c - 1) i (λ (j : ℕ). (k + (j + 1)) % c) 0 h in
        record {
          some = r.some;
          few = r.few;
          fresh = r.fresh;
          robs = r.robs;
          tracks = steals_as (ap (steal_from k runs locked M) (sym b) ∙ sym (fold_next (steal_from k runs locked) L (targets k c) i 0 (omega arith)))
              (steals_then n c ((k + (i + 1)) % c) still r.tracks s);
        }

  pub rounded : (n c : ℕ) (L : model_steal.Stealing) (l : Stealing) (i : ℕ) → Rounding n c L l i → c - 1 ≤ i → StealingTracks n c l (fold (steal_from k runs locked) L (targets k c))
  unfolding targets
  rounded n c L l i r h =
      let a : length (targets k c) ≡ c - 1 = length_tabulate (c - 1) (λ (j : ℕ). (k + (j + 1)) % c) in
      steals_as (ap (fold (steal_from k runs locked) L) (take_all i (targets k c) (omega arith))) r.tracks
