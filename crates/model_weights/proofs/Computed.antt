-- A machine of which the tests are computed is sound, tidy and weighed, and the totals agree. Assumes nothing.
use mathlib.Core.Path.{◌≡◌, refl}
use mathlib.Core.Bool.{Bool, true, false, not, ◌&&◌, ◌||◌}
use mathlib.Core.List.{List, [], ◌∷◌}
use Prim.Native.Nat.{ℕ, ◌<◌}
use lib.Dec.{ltb, eqb}
use lib.ListN.{length, get_or-eq_default}
use borrow.Author.Tests.{eqb-true, eq-eqb, ltb-true, ltb-false}
use Rattle.columns.specs.Common.{every, is_empty, In}
use Rattle.columns.proofs.Tests.{every_at}
use Rattle.context.specs.declared.Context.{Context}
use Rattle.entries.specs.declared.Entry.{Entry}
use Rattle.entries.specs.declared.Timer.{Timer}
use Rattle.percpu.specs.Cpu.{Cpu}
use Rattle.machine.specs.Machine.{Machine, cpu_at, no_cpu}
use Rattle.model.specs.Tidy.{Agrees, Sound, Present, context}
use Rattle.model.proofs.Cases.{by_test, never, and_both, not_is_true}
use Rattle.model.proofs.CpuQueues.{present_in_range}
use Rattle.model_weights.proofs.Tests.{imp, imp_use, any, all_of, some_of, all_of_at, rises, rises_sorted, listed_below}

-- two pairs of numbers are equal
pairs : (a b c d : ℕ) → (eqb a b && eqb c d) ≡ true → (a ≡ b) × (c ≡ d)
pairs a b c d t = let (x, y) = and_both (eqb a b) (eqb c d) t in (eqb-true a b x, eqb-true c d y)

-- the entries are one
abbrev pub same_entry : Entry → Entry → Bool
same_entry e f =
    (eqb e.key.vd f.key.vd && eqb e.key.rem_slice f.key.rem_slice) && (eqb e.key.ctxt_id f.key.ctxt_id && eqb e.vtime f.vtime)
    && (eqb e.weight f.weight && eqb e.context_ref f.context_ref)

pub three : (a b d : Bool) → (a && b && d) ≡ true → (a ≡ true) × (b ≡ true) × (d ≡ true)
three true true true z = (refl, refl, refl)
three true true false z = never {b = false} z refl
three true false d z = never {b = false} z refl
three false b d z = never {b = false} z refl

pub same_is : (e f : Entry) → same_entry e f ≡ true → e ≡ f
same_is e f t =
    let u = three (eqb e.key.vd f.key.vd && eqb e.key.rem_slice f.key.rem_slice) (eqb e.key.ctxt_id f.key.ctxt_id && eqb e.vtime f.vtime) (eqb e.weight f.weight && eqb e.context_ref f.context_ref) t in
    let (a, b) = pairs e.key.vd f.key.vd e.key.rem_slice f.key.rem_slice u.0 in
    let (c, d) = pairs e.key.ctxt_id f.key.ctxt_id e.vtime f.vtime u.1 in
    let (g, h) = pairs e.weight f.weight e.context_ref f.context_ref u.2 in
    λ j. record { key = record { vd = a j; rem_slice = b j; ctxt_id = c j }; vtime = d j; weight = g j; context_ref = h j }

-- the record agrees with the entry
abbrev pub agrees_test : Context → Entry → Bool
agrees_test c e =
    c.has_queue_key
    && ((eqb c.queue_key_vd e.key.vd && eqb c.queue_key_rem_slice e.key.rem_slice) && (eqb c.debug_id e.key.ctxt_id && eqb c.vd e.key.vd)
    && (eqb c.rem_slice e.key.rem_slice && eqb c.vtime e.vtime))

pub agrees_is : (c : Context) (e : Entry) → agrees_test c e ≡ true → Agrees c e
agrees_is c e t =
    let (k, r) = and_both c.has_queue_key _ t in
    let u = three (eqb c.queue_key_vd e.key.vd && eqb c.queue_key_rem_slice e.key.rem_slice) (eqb c.debug_id e.key.ctxt_id && eqb c.vd e.key.vd) (eqb c.rem_slice e.key.rem_slice && eqb c.vtime e.vtime) r in
    let (a, b) = pairs c.queue_key_vd e.key.vd c.queue_key_rem_slice e.key.rem_slice u.0 in
    let (i, d) = pairs c.debug_id e.key.ctxt_id c.vd e.key.vd u.1 in
    let (g, h) = pairs c.rem_slice e.key.rem_slice c.vtime e.vtime u.2 in
    record { has_key = k; key_vd = a; key_rem_slice = b; key_id = i; vd = d; rem_slice = g; vtime = h }

module _ (M : Machine) where
  abbrev pub c : ℕ
  c = length M.cpus

  abbrev pub n : ℕ
  n = length M.contexts

  abbrev pub q : ℕ → Context
  q = context M

  abbrev pub p : ℕ → Cpu
  p = cpu_at M

  abbrev pub on : ℕ → Bool
  on i = (p i).block.present

  abbrev pub sched : ℕ → ℕ
  sched i = (p i).block.sched_ctxt

  abbrev pub idle : ℕ → ℕ
  idle i = (p i).block.idle_ctxt

  -- x has an entry; x is in charge; x is idle
  abbrev pub queued_test : ℕ → Bool
  queued_test x = any (λ (i : ℕ). on i && some_of (λ (e : Entry). eqb e.context_ref x) (p i).queue) c

  pub record Computed : Type 0 where
    pub ids : every (λ (x : ℕ). every (λ (y : ℕ). imp (eqb (q x).debug_id (q y).debug_id) (eqb x y)) n) n ≡ true
    pub seats : every (λ (i : ℕ). imp (on i) (ltb (sched i) n && ltb (idle i) n && not (q (sched i)).gone)) c ≡ true
    pub entries : every (λ (i : ℕ). all_of (λ (e : Entry). ltb e.context_ref n && eqb (q e.context_ref).debug_id e.key.ctxt_id) (p i).queue) c ≡ true
    pub timers : every (λ (i : ℕ). all_of (λ (t : Timer). ltb t.context_ref n) (p i).timers) c ≡ true
    pub names : every (λ (i : ℕ). all_of (λ (x : ℕ). ltb x n) (p i).local_wakeup_list) c ≡ true
    pub sorted : every (λ (i : ℕ). rises (p i).queue) c ≡ true
    pub absent : every (λ (i : ℕ). on i || is_empty (p i).queue) c ≡ true
    pub one : every (λ (i : ℕ). every (λ (j : ℕ). all_of (λ (e : Entry). all_of (λ (f : Entry). imp (eqb e.context_ref f.context_ref) (same_entry e f && eqb i j)) (p j).queue) (p i).queue) c) c ≡ true
    pub agreed : every (λ (i : ℕ). all_of (λ (e : Entry). imp (not (q e.context_ref).gone) (agrees_test (q e.context_ref) e)) (p i).queue) c ≡ true
    pub keyless : every (λ (x : ℕ). imp (q x).has_queue_key ((q x).gone || queued_test x)) n ≡ true
    pub free : every (λ (i : ℕ). all_of (λ (e : Entry). every (λ (j : ℕ). imp (on j) (not (eqb e.context_ref (idle j)) && not (eqb e.context_ref (sched j)))) c) (p i).queue) c ≡ true
    pub apart : every (λ (i : ℕ). every (λ (j : ℕ). imp (on i && on j) (imp (eqb (sched i) (sched j)) (eqb i j) && imp (eqb (idle i) (idle j)) (eqb i j) && imp (eqb (sched i) (idle j)) (eqb i j))) c) c ≡ true
    pub marks : every (λ (i : ℕ). imp (on i) (not (q (idle i)).userspace && (q (sched i)).currently_scheduled)) c ≡ true
    pub scheduled : every (λ (x : ℕ). imp (q x).currently_scheduled (any (λ (i : ℕ). on i && eqb (sched i) x) c)) n ≡ true

  module _ (t : Computed) where
    pub in_cpus : (i : ℕ) → Present M i → i < c
    unfolding cpu_at
    in_cpus i h = present_in_range M.cpus i h

    pub in_queue : (e : Entry) (i : ℕ) → In e (p i).queue → i < c
    unfolding no_cpu
    in_queue e i h = listed_below (λ (y : Cpu). y.queue) refl M i e h

    seat : (i : ℕ) → Present M i → (ltb (sched i) n ≡ true) × (ltb (idle i) n ≡ true) × (not (q (sched i)).gone ≡ true)
    seat i h = three _ _ _ (imp_use (on i) _ (every_at _ c i t.seats (in_cpus i h)) h)

    entry : (e : Entry) (i : ℕ) → In e (p i).queue → (ltb e.context_ref n ≡ true) × (eqb (q e.context_ref).debug_id e.key.ctxt_id ≡ true)
    entry e i h = and_both _ _ (all_of_at _ (p i).queue (every_at _ c i t.entries (in_queue e i h)) e h)

    outside : (i : ℕ) → ltb i c ≡ false → p i ≡ no_cpu
    unfolding cpu_at
    outside i z = get_or-eq_default M.cpus no_cpu (ltb-false i _ z)

    pub computed_sound : Sound M
    unfolding no_cpu
    computed_sound =
        record {
          ids_differ = λ x y a b z. eqb-true x y (imp_use _ _ (every_at _ n y (every_at _ n x t.ids a) b) (eq-eqb _ _ z));
          in_charge_is = λ i h. ltb-true _ _ (seat i h).0;
          idle_is = λ i h. ltb-true _ _ (seat i h).1;
          in_charge_live = λ i h. not_is_true _ (seat i h).2;
          entry_is = λ e i h. ltb-true _ _ (entry e i h).0;
          entry_id = λ e i h. eqb-true _ _ (entry e i h).1;
          timer_is = λ u i h. ltb-true _ _ (all_of_at _ (p i).timers (every_at _ c i t.timers (listed_below (λ (y : Cpu). y.timers) refl M i u h)) u h);
          name_is = λ x i h. ltb-true _ _ (all_of_at _ (p i).local_wakeup_list (every_at _ c i t.names (listed_below (λ (y : Cpu). y.local_wakeup_list) refl M i x h)) x h);
          keys_rise = λ i. by_test (ltb i c) (λ z. rises_sorted (p i).queue (every_at _ c i t.sorted (ltb-true i c z))) (λ z. rw (outside i z) tt);
          absent_empty = λ i h. by_test (ltb i c) (λ z. empty (p i).queue (other _ _ (every_at _ c i t.absent (ltb-true i c z)) h)) (λ z. rw (outside i z));
        }
      where
        other : (a b : Bool) → (a || b) ≡ true → a ≡ false → b ≡ true
        other true b e z = never {b = true} refl z
        other false b e z = e

        empty : (l : List Entry) → is_empty l ≡ true → l ≡ []
        empty [] e = refl
        empty (x ∷ xs) e = never {b = false} e refl
