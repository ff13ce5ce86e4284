-- The machine of an image that passes the check is sound: what demand 3 asks of it besides being tidy. Assumes nothing.
use Rattle.std.specs.Prelude.{if◌then◌else◌}
use mathlib.Core.Path.{◌≡◌, refl, sym, ap, ◌∙◌, subst}
use mathlib.Core.Logic.{◌≢◌, ◌⊎◌, inl, inr}
use mathlib.Core.Bool.{Bool, true, false, ◌&&◌, not}
use Prim.Native.Nat.{ℕ, zero, suc, ◌+◌, ◌-◌, ◌*◌, ◌<◌, ◌≤◌}
use native.Mathlib.Omega.{arith}
use native.Mathlib.Nat.{add-zero}
use mathlib.Core.List.{List, [], ◌∷◌}
use lib.Dec.{ltb, leb, eqb}
use lib.ListN.{length, get_or}
use borrow.Author.Tests.{ltb-true, ltb-false, eqb-true, eqb-false, eq-eqb, not-true, not-false}
use Rattle.columns.specs.Common.{every, tabulate, In}
use Rattle.columns.specs.Blocks.{part}
use Rattle.columns.proofs.Tests.{by_test, every_at, and_both}
use Rattle.columns.proofs.Tabulate.{part_get, length_tabulate, get_d_tabulate}
use Rattle.context.specs.declared.Context.{Context}
use Rattle.context.specs.Words.{context_of, record_size}
use Rattle.entries.specs.declared.Entry.{Entry}
use Rattle.entries.specs.declared.Timer.{Timer}
use Rattle.entries.specs.Order.{entry_before}
use Rattle.entries.specs.Sorted.{Sorted}
use Rattle.percpu.specs.Cpu.{Cpu}
use Rattle.percpu.specs.Words.{block_of}
use Rattle.percpu.specs.Layout.{cpu_of, entry_at, timer_at, no_entry, no_timer}
use Rattle.machine.specs.Machine.{Machine, context_at, cpu_at, no_context, no_cpu}
use Rattle.machine.specs.Encode.{encode, decode, context_place, cpu_place}
use Rattle.machine.specs.Shape.{CpuFits, Fits}
use Rattle.image_ranges.specs.Ranges.{block_most_to}
use Rattle.image_structure.specs.Structure.{id_of, is_live, is_new, ids_differ, names_live, entry_ids, structure}
use Rattle.image.specs.Refusal.{size_c, size_n, image_refusal}
use Rattle.image_ranges.proofs.InRange.{BlockInRange}
use Rattle.image.proofs.Admitted.{Passed, BlockStructure, block_structure_of, decoded_fits, a_block}
use Rattle.model.specs.Tidy.{IsContext, Live, Present, Sound, context}
use Rattle.percpu.specs.Places.{key_ctxt_id_column, entry_context_ref_column, block_size}

-- a member of a list stands somewhere in it
pub in_at : {A : Type 0} (a d : A) (l : List A) → In a l → (i : ℕ) × (i < length l) × (a ≡ get_or l i d)
in_at a d [] h = absurd h
in_at a d (x ∷ xs) (inl e) = (0, omega arith, e)
in_at a d (x ∷ xs) (inr h) = let t = in_at a d xs h in (suc t.0, (let b : t.0 < length xs = t.1 in omega arith), t.2)

no_queue : no_cpu.queue ≡ []
unfolding no_cpu
no_queue = refl

no_timers : no_cpu.timers ≡ []
unfolding no_cpu
no_timers = refl

no_names : no_cpu.local_wakeup_list ≡ []
unfolding no_cpu
no_names = refl

module _ {time : ℕ} (m : List ℕ) (p : Passed time m) where
  abbrev M : Machine
  M = decode m

  abbrev block_at : ℕ → List ℕ
  block_at k = part m (cpu_place (size_n m) k) block_size

  fits : Fits (size_c m) (size_n m) M
  fits = decoded_fits m p

  pub contexts_are : (x : ℕ) → x < size_n m → context_at M.contexts x ≡ context_of (part m (context_place x) record_size)
  unfolding decode
  contexts_are x h = get_d_tabulate (size_n m) x (λ (x : ℕ). context_of (part m (context_place x) record_size)) no_context h

  pub cpus_are : (k : ℕ) → k < size_c m → cpu_at M k ≡ cpu_of (block_at k)
  unfolding decode cpu_at
  cpus_are k h = get_d_tabulate (size_c m) k (λ (k : ℕ). cpu_of (block_at k)) no_cpu h

  id_is : (x : ℕ) → x < size_n m → (context_at M.contexts x).debug_id ≡ id_of m x
  unfolding context_of id_of
  id_is x h = ap (λ (c : Context). c.debug_id) (contexts_are x h) ∙ part_get m (context_place x) record_size 1 (omega arith)

  -- a CPU that is present is below C
  past_end : (l : List Cpu) (k : ℕ) → length l ≤ k → get_or l k no_cpu ≡ no_cpu
  past_end [] k h = refl
  past_end (x ∷ xs) zero h = absurd (omega arith)
  past_end (x ∷ xs) (suc k) h = past_end xs k (omega arith)

  beyond : (k : ℕ) → size_c m ≤ k → cpu_at M k ≡ no_cpu
  unfolding cpu_at
  beyond k h = past_end M.cpus k (omega (arith, fits.cpus))

  absent_beyond : no_cpu.block.present ≡ false
  unfolding no_cpu block_of
  absent_beyond = refl

  present_below : (k : ℕ) → Present M k → k < size_c m
  present_below k e =
      by_test (ltb k (size_c m)) (λ t. ltb-true k (size_c m) t)
      (λ t. never (sym (ap (λ (q : Cpu). q.block.present) (beyond k (ltb-false k (size_c m) t))) ∙ e))
    where
      never : no_cpu.block.present ≡ true → k < size_c m
      never z = let w : true ≡ false = sym z ∙ absent_beyond in let y : ◌≡◌ {A = ℕ} 0 1 = cc in absurd (omega arith)

  -- what a member of a CPU's list has, from what every item of a CPU below C has
  member : {A : Type 0} (d : A) (P : A → Type 0) (f : Cpu → List A) → f no_cpu ≡ [] → ((k : ℕ) → k < size_c m → (i : ℕ) → i < length (f (cpu_at M k)) → P (get_or (f (cpu_at M k)) i d))
      → (a : A) (k : ℕ) → In a (f (cpu_at M k)) → P a
  member d P f z h a k t =
      by_test (ltb k (size_c m))
      (λ b. let s = in_at a d (f (cpu_at M k)) t in subst P (sym s.2) (h k (ltb-true k (size_c m) b) s.0 s.1))
      (λ b. none (subst (In a) (ap f (beyond k (ltb-false k (size_c m) b)) ∙ z) t))
    where
      none : In a [] → P a
      none y = absurd y

  is_context : (x : ℕ) → x < size_n m → IsContext M x
  is_context x h = omega (arith, fits.contexts)

  below : (x : ℕ) → IsContext M x → x < size_n m
  below x h = omega (arith, fits.contexts)

  new_at : (y : ℕ) → y < size_n m → (x : ℕ) → x < y → id_of m x ≡ id_of m y → ⊥
  unfolding structure ids_differ is_new
  new_at y h x g e =
      let t = every_at (is_new m) (size_n m) y (and_both (ids_differ m (size_n m)) _ p.structured).0 h
      in let u = every_at (λ (x : ℕ). not (eqb (id_of m x) (id_of m y))) y x t g
      in eqb-false (id_of m x) (id_of m y) (not-true (eqb (id_of m x) (id_of m y)) u) e

  ids_apart : (x y : ℕ) → IsContext M x → IsContext M y → (context M x).debug_id ≡ (context M y).debug_id → x ≡ y
  ids_apart x y h g e =
      let d : id_of m x ≡ id_of m y = sym (id_is x (below x h)) ∙ e ∙ id_is y (below y g)
      in by_test (ltb x y) (λ t. absurd (new_at y (below y g) x (ltb-true x y t) d))
      (λ t. by_test (ltb y x) (λ u. absurd (new_at x (below x h) y (ltb-true y x u) (sym d)))
      (λ u. let a : y ≤ x = ltb-false x y t in let b : x ≤ y = ltb-false y x u in omega arith))

  -- the structure of a present CPU
  structure_of : (k : ℕ) → Present M k → BlockStructure m (block_at k)
  unfolding cpu_of block_of
  structure_of k e =
      let h = present_below k e
      in let w : eqb (get_or (block_at k) 0 0) 1 ≡ true = sym (ap (λ (q : Cpu). q.block.present) (cpus_are k h)) ∙ e
      in let n : get_or (block_at k) 0 0 ≡ 1 = eqb-true _ 1 w
      in block_structure_of m p k h (rw n)

  live_is : (x : ℕ) → x < size_n m → is_live m x ≡ true → Live M x
  unfolding is_live context_of
  live_is x h t =
      let z : get_or (part m (context_place x) record_size) 0 0 ≡ 0 = part_get m (context_place x) record_size 0 (omega arith) ∙ rw (add-zero (context_place x)) (eqb-true _ 0 t)
      in ap (λ (c : Context). c.gone) (contexts_are x h) ∙ rw z

  sched_live : (k : ℕ) → Present M k → Live M (cpu_at M k).block.sched_ctxt
  unfolding names_live cpu_of block_of
  sched_live k e =
      let h = present_below k e
      in let b = block_at k
      in let t = and_both (is_live m (get_or b 1 0)) _ (structure_of k e).names
      in let u = and_both (is_live m (get_or b 2 0)) (is_live m (get_or b 3 0)) t.1
      in let s : (cpu_at M k).block.sched_ctxt ≡ get_or b 2 0 = ap (λ (q : Cpu). q.block.sched_ctxt) (cpus_are k h)
      in live_is (cpu_at M k).block.sched_ctxt (fits.cpu k h).sched (rw s u.0)

  -- an entry of an absent CPU there is none; of a present one the structure speaks
  queue_empty : (k : ℕ) → (cpu_at M k).block.present ≡ false → (cpu_at M k).queue ≡ []
  unfolding cpu_of block_of block_most_to tabulate no_cpu
  queue_empty k e =
      by_test (ltb k (size_c m))
      (λ t.
      let h = ltb-true k (size_c m) t
      in let w : eqb (get_or (block_at k) 0 0) 1 ≡ false = sym (ap (λ (q : Cpu). q.block.present) (cpus_are k h)) ∙ e
      in let f : get_or (block_at k) 0 0 ≤ 1 = (a_block m p k h).scalar 0 (omega arith)
      in let n : get_or (block_at k) 0 0 ≢ 1 = eqb-false _ 1 w
      in let z : get_or (block_at k) 0 0 ≡ 0 = omega (arith, f, n)
      in let q : get_or (block_at k) 21 0 ≡ 0 = (a_block m p k h).absent z 21 (omega arith)
      in ap (λ (c : Cpu). c.queue) (cpus_are k h) ∙ rw q)
      (λ t. ap (λ (c : Cpu). c.queue) (beyond k (ltb-false k (size_c m) t)))

  entry_found : (k : ℕ) → k < size_c m → (i : ℕ) → i < length (cpu_at M k).queue → (i < get_or (block_at k) 21 0) × (get_or (cpu_at M k).queue i no_entry ≡ entry_at (block_at k) i)
  unfolding cpu_of
  entry_found k h i b =
      let q : (cpu_at M k).queue ≡ tabulate (get_or (block_at k) 21 0) (entry_at (block_at k)) = ap (λ (c : Cpu). c.queue) (cpus_are k h)
      in let g : i < get_or (block_at k) 21 0 = rw (length_tabulate (get_or (block_at k) 21 0) (entry_at (block_at k))) at (subst (λ (l : List Entry). i < length l) q b)
      in (g, ap (λ (l : List Entry). get_or l i no_entry) q ∙ get_d_tabulate (get_or (block_at k) 21 0) i (entry_at (block_at k)) no_entry g)

  id_of_entry : (k : ℕ) → k < size_c m → (i : ℕ) → i < length (cpu_at M k).queue → entry_ids m (block_at k) ≡ true
      → (context M (get_or (cpu_at M k).queue i no_entry).context_ref).debug_id ≡ (get_or (cpu_at M k).queue i no_entry).key.ctxt_id
  unfolding entry_ids entry_at
  id_of_entry k h i b s =
      let f = entry_found k h i b
      in let t = every_at (λ (i : ℕ). eqb (get_or (block_at k) (key_ctxt_id_column + i) 0) (id_of m (get_or (block_at k) (entry_context_ref_column + i) 0))) (get_or (block_at k) 21 0) i s f.0
      in let n : (get_or (cpu_at M k).queue i no_entry).context_ref < size_n m = ((fits.cpu k h).entry i b).name
      in id_is _ n ∙ ap (λ (e : Entry). id_of m e.context_ref) f.1
      ∙ sym (eqb-true (get_or (block_at k) (key_ctxt_id_column + i) 0) (id_of m (get_or (block_at k) (entry_context_ref_column + i) 0)) t)
      ∙ sym (ap (λ (e : Entry). e.key.ctxt_id) f.1)

  ids_of_entries : (k : ℕ) → k < size_c m → (i : ℕ) → i < length (cpu_at M k).queue
      → (context M (get_or (cpu_at M k).queue i no_entry).context_ref).debug_id ≡ (get_or (cpu_at M k).queue i no_entry).key.ctxt_id
  ids_of_entries k h i b =
      by_test (cpu_at M k).block.present (λ e. of_present e)
      (λ e. none (subst (λ (q : List Entry). i < length q) (queue_empty k e) b))
    where
      none : {C : Type 0} → i < length {A = Entry} [] → C
      none z = absurd (omega arith)

      of_present : (cpu_at M k).block.present ≡ true
          → (context M (get_or (cpu_at M k).queue i no_entry).context_ref).debug_id ≡ (get_or (cpu_at M k).queue i no_entry).key.ctxt_id
      of_present e = id_of_entry k h i b (structure_of k e).ids

  pub sound : Sound M
  sound =
      record {
        ids_differ = ids_apart;
        in_charge_is = λ k e. is_context _ (fits.cpu k (present_below k e)).sched;
        idle_is = λ k e. is_context _ (fits.cpu k (present_below k e)).idle;
        in_charge_live = sched_live;
        entry_is = member no_entry (λ (e : Entry). IsContext M e.context_ref) (λ (c : Cpu). c.queue) no_queue (λ k h i b. is_context _ ((fits.cpu k h).entry i b).name);
        entry_id = member no_entry (λ (e : Entry). (context M e.context_ref).debug_id ≡ e.key.ctxt_id) (λ (c : Cpu). c.queue) no_queue ids_of_entries;
        timer_is = member no_timer (λ (t : Timer). IsContext M t.context_ref) (λ (c : Cpu). c.timers) no_timers (λ k h i b. is_context _ ((fits.cpu k h).timer i b));
        name_is = member 0 (λ (x : ℕ). IsContext M x) (λ (c : Cpu). c.local_wakeup_list) no_names (λ k h i b. is_context _ ((fits.cpu k h).local_name i b));
        keys_rise = rising;
        absent_empty = queue_empty;
      }
    where
      rising : (k : ℕ) → Sorted entry_before (cpu_at M k).queue
      rising k =
          by_test (ltb k (size_c m)) (λ t. (fits.cpu k (ltb-true k (size_c m) t)).keys_rise)
          (λ t. subst (Sorted entry_before) (sym (ap (λ (c : Cpu). c.queue) (beyond k (ltb-false k (size_c m) t)) ∙ no_queue)) tt)
