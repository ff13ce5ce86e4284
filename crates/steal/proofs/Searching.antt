-- What the search reads and judges. Assumes nothing.
use Rattle.std.specs.Prelude.{if◌then◌else◌, None, Option, Some}
use mathlib.Core.Path.{◌≡◌, refl, sym, ap, ◌∙◌, subst}
use mathlib.Core.Bool.{Bool, true, false, not, ◌&&◌}
use mathlib.Core.List.{List, [], ◌∷◌, ◌++◌}
use Prim.Native.Nat.{ℕ, ◌+◌, ◌-◌, ◌/◌, ◌<◌, min, max}
use native.Mathlib.Omega.{arith}
use lib.Dec.{eqb}
use lib.ListN.{length}
use borrow.Author.Tests.{eq-eqb, ne_eqb, lt-ltb}
use Rattle.columns.specs.Common.{All}
use Rattle.context.specs.declared.Context.{Context}
use Rattle.context.specs.Status.{is_runnable}
use Rattle.cpu_set.specs.Set.{contains}
use Rattle.entries.specs.declared.Entry.{Entry}
use Rattle.percpu.specs.declared.PercpuBlock.{PercpuBlock}
use Rattle.percpu.specs.Cpu.{Cpu}
use Rattle.machine.specs.Machine.{Machine, context_at, cpu_at}
use Rattle.machine.specs.Encode.{encode}
use Rattle.machine.specs.Shape.{EntryFits, Fits, Image}
use Rattle.machine.specs.LookUp.{get_percpu_block}
use Rattle.machine.proofs.Looked.{absent_at, present_at, present_is}
use Rattle.model.specs.State.{State, state_of}
use Rattle.model.specs.Steal.{my_load, can_steal_from, want, member, wins, contexts_of, can_be_stolen, take_candidate}
use Rattle.steal_judge.specs.Judged.{is_free, may_move, stolen_record, has_enough}
use Rattle.steal.proofs.Apart.{all_more}

module _ (s : State) (b : PercpuBlock) (len : ℕ) (e : b ≡ s.cpu.block) (l : len ≡ length s.cpu.queue) where
  pub load_idle : b.sched_ctxt ≡ b.idle_ctxt → len ≡ my_load s
  load_idle h =
      let z : eqb s.cpu.block.sched_ctxt s.cpu.block.idle_ctxt ≡ true = subst (λ (p : PercpuBlock). eqb p.sched_ctxt p.idle_ctxt ≡ true) e (eq-eqb _ _ h)
      in rw z (omega (arith, l))

  pub load_busy : (b.sched_ctxt ≡ b.idle_ctxt → ⊥) → len + 1 ≡ my_load s
  load_busy h =
      let z : eqb s.cpu.block.sched_ctxt s.cpu.block.idle_ctxt ≡ false = subst (λ (p : PercpuBlock). eqb p.sched_ctxt p.idle_ctxt ≡ false) e (ne_eqb _ _ h)
      in rw z (omega (arith, l))

-- the victim, which the code looked up by the word u of its number t; l is the answer
module _ {c n : ℕ} {m : List ℕ} (i : Image c n m) {u t : ℕ} (z : u ≡ t) (h : t < c) {l : Option ℕ} (f : (M : Machine) → m ≡ encode M → Fits c n M → l ≡ get_percpu_block M u) where
  asked : (M : Machine) → m ≡ encode M → Fits c n M → l ≡ get_percpu_block M t
  asked M e o = f M e o ∙ ap (get_percpu_block M) z

  pub victim_absent : l ≡ None → (k : ℕ) (M : Machine) → m ≡ encode M → Fits c n M → false ≡ can_steal_from (state_of k M) (cpu_at M t)
  unfolding can_steal_from
  victim_absent a k M e o = rw (absent_at i t h asked a M e o)

  pub victim_below : {v : ℕ} → l ≡ Some v → v < c
  victim_below a = rw (present_is i t h asked a) h

  pub victim_judged : {v : ℕ} → l ≡ Some v → (k : ℕ) (M : Machine) → m ≡ encode M → Fits c n M → (b : PercpuBlock) {p len load : ℕ} {r : Bool}
      → b ≡ (cpu_at M v).block → p ≡ b.queue_len → len ≡ length (cpu_at M v).queue → load ≡ my_load (state_of k M)
      → r ≡ has_enough b.stealable p b.queue_locked len load → r ≡ can_steal_from (state_of k M) (cpu_at M t)
  unfolding has_enough can_steal_from
  victim_judged a k M e o b d q g y w = let x = present_at i t h asked a M e o in w ∙ rw (q, g, y, d, x.is, x.present)

pub want_is : (s : State) (v : Cpu) {here there r : ℕ} → here ≡ length s.cpu.queue → there ≡ length v.queue → r ≡ max 1 (min 2 ((there - here) / 2)) → r ≡ want s v
unfolding want
want_is s v h t e = e ∙ rw (h, t)

pub offers_all : {len : ℕ} (s : State) (v : Cpu) {r : Bool} → r ≡ can_steal_from s v → r ≡ true → len ≡ length v.queue → len ≡ (if can_steal_from s v then length v.queue else 0)
offers_all s v e t l = let z : can_steal_from s v ≡ true = sym e ∙ t in rw z l

pub offers_none : (s : State) (v : Cpu) {r : Bool} → r ≡ can_steal_from s v → r ≡ false → 0 ≡ (if can_steal_from s v then length v.queue else 0)
offers_none s v e t = let z : can_steal_from s v ≡ false = sym e ∙ t in rw z

-- the tests in one chain
chain : (l a b d e f g h i : Bool) → (l && (a && b && d) && (e && f && g && h && i)) ≡ (l && a && b && d && e && f && g && h && i)
chain true true true true e f g h i = refl
chain true true true false e f g h i = refl
chain true true false d e f g h i = refl
chain true false b d e f g h i = refl
chain false a b d e f g h i = refl

-- a context of the victim's queue
module _ (k : ℕ) (locked : List ℕ) (cs : List Context) (w : Option ℕ) (got : List Entry) (e : Entry) where
  pub stolen_gone : (context_at cs e.context_ref).gone ≡ true → false ≡ can_be_stolen k locked cs w got e
  unfolding can_be_stolen
  stolen_gone h = rw h

  pub stolen_live : {cpu x : ℕ} {q : Context} {r : Bool} → cpu ≡ k → x ≡ e.context_ref → q.gone ≡ false → q ≡ context_at cs e.context_ref → r ≡ stolen_record cpu locked w got x q
      → r ≡ can_be_stolen k locked cs w got e
  unfolding stolen_record is_free may_move can_be_stolen
  stolen_live {q = q} a b g d h =
      h ∙ rw (a, b)
      (chain (eqb q.lock 0) (not (member e.context_ref locked)) (not (wins w e.context_ref)) (not (member e.context_ref (contexts_of got)))
      (contains q.sched_affinity k) (is_runnable q.status) (not q.running) (not q.currently_scheduled) (not (eqb q.addr_space 2))
      ∙ rw (← d, g))

module _ (k : ℕ) (locked : List ℕ) (cs : List Context) (w : Option ℕ) (n : ℕ) (got : List Entry) (e : Entry) (h : length got < n) where
  pub taken_is : {r : Bool} {g : List Entry} → r ≡ can_be_stolen k locked cs w got e → r ≡ true → g ≡ got ++ (e ∷ []) → g ≡ take_candidate k locked cs w n got e
  taken_is p t z = let y : can_be_stolen k locked cs w got e ≡ true = sym p ∙ t in rw (lt-ltb (length got) n h, y) z

  pub left_is : {r : Bool} → r ≡ can_be_stolen k locked cs w got e → r ≡ false → got ≡ take_candidate k locked cs w n got e
  left_is p t = let y : can_be_stolen k locked cs w got e ≡ false = sym p ∙ t in rw (lt-ltb (length got) n h, y)

pub all_with : (n : ℕ) (l : List Entry) (e : Entry) {g : List Entry} → All (EntryFits n) l → EntryFits n e → g ≡ l ++ (e ∷ []) → All (EntryFits n) g
all_with n l e a f z = subst (All (EntryFits n)) (sym z) (all_more (EntryFits n) l e a f)
