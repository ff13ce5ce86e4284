-- What is read of a block and of an image. Assumes nothing.
use mathlib.Core.Path.{◌≡◌, refl, sym, ap, ◌∙◌, subst}
use mathlib.Core.List.{List, [], ◌∷◌}
use Prim.Native.Nat.{ℕ, zero, suc, ◌+◌, ◌-◌, ◌<◌, ◌≤◌}
use native.Mathlib.Omega.{arith}
use lib.ListN.{length, get_or, set, take, drop}
use lib.Seq.{get_or-take, get_or-drop}
use denote.Param.Members.{Mut}
use lib.Dec.{eqb}
use borrow.Author.Tests.{eqb-true, eqb-false}
use Rattle.columns.proofs.Tests.{by_test}
use Rattle.std.specs.Fn.{Called}
use Rattle.std.specs.Array.{IsFromFnResult, IsFromFnResultFrom}
use Rattle.columns.specs.Common.{All, tabulate}
use Rattle.columns.proofs.Tabulate.{tabulate_is, length_tabulate}
use Rattle.context.specs.declared.Context.{Context}
use Rattle.entries.specs.declared.Entry.{Entry}
use Rattle.percpu.specs.Cpu as model
use Rattle.percpu.specs.Layout.{entry_at, timer_at, cpu_of, cpu_words, length_cpu_words, no_entry}
use Rattle.percpu.proofs.Read.{cpu_of_words}
use Rattle.percpu.specs.Words.{block_of}
use Rattle.percpu.specs.Places.{queue_count, timers_count, local_count, ipi_count, local_wakeup_list_column, ipi_context_wakeup_list_column, remainder_place, block_size}
use Rattle.stages.proofs.Blocks.{loaded}
use Rattle.machine.proofs.Places.{lent_is}
use Rattle.machine.specs.Machine.{Machine, context_at, cpu_at, no_context, no_cpu}
use Rattle.machine.specs.Encode.{encode, cpu_place}
use Rattle.machine.specs.Shape.{Fits, Image}
use Rattle.plain_lists.specs.Lists.{Queue, Sized, Stands}
use Rattle.plain_state.specs.declared.Cpu.{Cpu}
use Rattle.plain_state.specs.States.{Names, timer_of, cpu_in, NamesSized, CpuSound}
use Rattle.plain_words.specs.Words.{Counted, Short, CpuRead, TimersRead, NamesRead, ContextsRead, CpusRead}
use Rattle.plain_lists.proofs.Filling.{Filled, filled_next, filled_all}
use Rattle.plain_words.proofs.Filled.{filled_map, filled_is, filled_alike}

-- what `array::from_fn` made by calls that leave f as it is
module _ {F A : Type 0} (g : Mut F (ℕ × Unit {0}) A) (f : F) (P : ℕ → A → Type 0) (h : (j : ℕ) (x : A) (q : F) → Called g f (j, tt) x q → P j x × (q ≡ f)) (d : A) (xs : List A) where
  made_from : (n i : ℕ) (e : F) → e ≡ f → IsFromFnResultFrom g e xs i n → (k : ℕ) → i ≤ k → k < i + n → P k (get_or xs k d)
  made_from zero i e s r k a b = absurd (omega arith)
  made_from (suc n) i e s r k a b =
      let t = h i r.1 r.0 (subst (λ (p : F). Called g p (i, tt) r.1 r.0) s r.3) in
      by_test (eqb k i)
      (λ u. rw (eqb-true k i u) (subst (P i) (sym (r.2.1 d)) t.0))
      (λ u. let z : k ≡ i → ⊥ = eqb-false k i u in made_from n (i + 1) r.0 t.1 r.4 k (omega arith) (omega arith))

  pub made : (n : ℕ) → IsFromFnResult g f xs n → (k : ℕ) → k < n → P k (get_or xs k d)
  made n r k b = made_from n 0 f refl r.each k (omega arith) (omega arith)

module _ (w : List ℕ) where
  abbrev pub IsEntry : ℕ → Entry → Type 0
  IsEntry j e = e ≡ entry_at w j

  abbrev pub IsTimer : ℕ → Entry → Type 0
  IsTimer j e = (timer_of e ≡ timer_at w j) × (e.key.rem_slice ≡ 0)

  pub queue_read : (r : Queue) → Sized r → ((j : ℕ) → j < 64 → IsEntry j (get_or r.items j no_entry)) → Stands r (tabulate r.len (entry_at w))
  queue_read r s f =
      let u : r.len ≤ 64 = s.used in
      record { sized = s; is = filled_is no_entry (entry_at w) 64 r.len r.items s.places u (λ j b. f j (omega arith)) }

  pub timers_read : (r : Queue) → Sized r → ((j : ℕ) → j < 64 → IsTimer j (get_or r.items j no_entry)) → TimersRead w r.len r
  timers_read r s f =
      let u : r.len ≤ 64 = s.used in
      let b : length r.items ≡ 64 = s.places in
      record {
        sized = s;
        is = filled_map no_entry timer_of (timer_at w) 64 r.len r.items b u (λ j c. (f j (omega arith)).0);
        flat = filled_alike no_entry (λ (e : Entry). e.key.rem_slice ≡ 0) r.len r.items (omega arith) (λ j c. (f j (omega arith)).1);
      }

  pub names_read : (at : ℕ) (r : Names) → NamesSized r → at + 64 ≤ length w → r.items ≡ take 64 (drop at w) → NamesRead w at r.len r
  names_read at r s h e =
      let u : r.len ≤ 64 = s.used in
      record {
        sized = s;
        is = filled_is 0 (λ (j : ℕ). get_or w (at + j) 0) 64 r.len r.items s.places u
            (λ j b. ap (λ (l : List ℕ). get_or l j 0) e ∙ get_or-take 64 (drop at w) j 0 (omega arith) ∙ get_or-drop at w j 0);
      }

sound_set : (l : List Cpu) (i : ℕ) (p : Cpu) → All CpuSound l → CpuSound p → All CpuSound (set l i p)
sound_set [] i p s e = tt
sound_set (x ∷ l) zero p s e = (e, s.1)
sound_set (x ∷ l) (suc i) p s e = (s.0, sound_set l i p s.1 e)

-- an image m of c CPUs and n contexts
module _ (c n : ℕ) (m : List ℕ) where
  abbrev pub IsContext : ℕ → Context → Type 0
  IsContext x q = (M : Machine) → m ≡ encode M → Fits c n M → q ≡ context_at M.contexts x

  pub contexts_read : (l : List Context) (i : ℕ) → n ≤ 64 → Filled no_context IsContext 64 l i → n ≤ i → ContextsRead c n m l
  contexts_read l i h f g =
      record {
        places = f.places;
        is = λ M e o.
            filled_is no_context (λ (x : ℕ). context_at M.contexts x) 64 n l f.places h (λ j b. filled_all no_context IsContext n l i f g j b M e o)
            ∙ subst (λ (y : ℕ). tabulate y (λ (x : ℕ). context_at M.contexts x) ≡ M.contexts) o.contexts
            (tabulate_is no_context M.contexts (λ (x : ℕ). context_at M.contexts x) (λ x b. refl));
      }

  abbrev pub IsCpu : ℕ → Cpu → Type 0
  IsCpu k p = CpuSound p × ((M : Machine) → m ≡ encode M → Fits c n M → cpu_in p ≡ cpu_at M k)

  module _ (d : Cpu) where
    pub cpus_next : (l : List Cpu) (i : ℕ) (p : Cpu) → Filled d IsCpu 4 l i × All CpuSound l → i < 4 → IsCpu i p → Filled d IsCpu 4 (set l i p) (i + 1) × All CpuSound (set l i p)
    cpus_next l i p (f, s) h e = (filled_next d IsCpu l i p f h e, sound_set l i p s e.0)

    pub cpus_read : (l : List Cpu) (i : ℕ) → c ≤ 4 → Filled d IsCpu 4 l i × All CpuSound l → c ≤ i → CpusRead c n m l
    unfolding cpu_at
    cpus_read l i h (f, s) g =
        let a : (j : ℕ) → j < c → IsCpu j (get_or l j d) = filled_all d IsCpu c l i f g in
        let b : length l ≡ 4 = f.places in
        record {
          places = b;
          sound = s;
          is = λ M e o.
              filled_map d cpu_in (λ (k : ℕ). cpu_at M k) 4 c l b h (λ j z. (a j z).1 M e o)
              ∙ subst (λ (y : ℕ). tabulate y (λ (k : ℕ). cpu_at M k) ≡ M.cpus) o.cpus
              (tabulate_is no_cpu M.cpus (λ (k : ℕ). cpu_at M k) (λ k z. refl));
        }

-- a block's words are those of p
module _ (w : List ℕ) (p : model.Cpu) (s : Short p) (e : w ≡ cpu_words p) where
  pub found : cpu_of w ≡ p
  found = ap cpu_of e ∙ cpu_of_words p (record { queue = s.queue; timers = s.timers; local = s.local; ipi = s.ipi })

  -- its counts
  pub counted : Counted w
  unfolding cpu_of
  counted =
      record {
        queue = few (sym (length_tabulate (get_or w queue_count 0) (entry_at w)) ∙ ap (λ (x : model.Cpu). length x.queue) found) s.queue;
        timers = few (sym (length_tabulate (get_or w timers_count 0) (timer_at w)) ∙ ap (λ (x : model.Cpu). length x.timers) found) s.timers;
        local = few (sym (length_tabulate (get_or w local_count 0) (λ (i : ℕ). get_or w (local_wakeup_list_column + i) 0)) ∙ ap (λ (x : model.Cpu). length x.local_wakeup_list) found) s.local;
        ipi = few (sym (length_tabulate (get_or w ipi_count 0) (λ (i : ℕ). get_or w (ipi_context_wakeup_list_column + i) 0)) ∙ ap (λ (x : model.Cpu). length x.ipi_context_wakeup_list) found) s.ipi;
      }
    where
      few : {a b : ℕ} → a ≡ b → b ≤ 64 → a ≤ 64
      few h g = omega arith

-- the parts that the code reads make the CPU
module _ (w : List ℕ) (r : Cpu) where
  pub cpu_read : r.block ≡ block_of (take 21 w) → Stands r.queue (tabulate (get_or w queue_count 0) (entry_at w)) → TimersRead w (get_or w timers_count 0) r.timers
      → NamesRead w local_wakeup_list_column (get_or w local_count 0) r.local → NamesRead w ipi_context_wakeup_list_column (get_or w ipi_count 0) r.ipi → r.remainder ≡ get_or w remainder_place 0 → CpuRead w r
  unfolding cpu_of
  cpu_read b q t l i z =
      record {
        sound = record { queue = q.sized; timers = t.sized; local = l.sized; ipi = i.sized; flat = t.flat };
        is = λ p s e.
            let f : cpu_of w ≡ p = found w p s e in
            λ y. record {
              block = loaded w r.block p b e y;
              queue = (q.is ∙ ap (λ (x : model.Cpu). x.queue) f) y;
              timers = (t.is ∙ ap (λ (x : model.Cpu). x.timers) f) y;
              local_wakeup_list = (l.is ∙ ap (λ (x : model.Cpu). x.local_wakeup_list) f) y;
              ipi_context_wakeup_list = (i.is ∙ ap (λ (x : model.Cpu). x.ipi_context_wakeup_list) f) y;
              remainder = (z ∙ ap (λ (x : model.Cpu). x.remainder) f) y;
            };
      }

pub short_of : {c n : ℕ} (M : Machine) → Fits c n M → (k : ℕ) → k < c → Short (cpu_at M k)
short_of M o k h = record { queue = (o.cpu k h).queue; timers = (o.cpu k h).timers; local = (o.cpu k h).local; ipi = (o.cpu k h).ipi }

-- CPU k of an image, as the code lends its block
module _ {c n : ℕ} (m : List ℕ) (k : ℕ) {at : ℕ} (p : at ≡ cpu_place n k) (h : k < c) (i : Image c n m) where
  pub lent_counted : Counted (take (at + block_size - at) (drop at m))
  lent_counted = counted _ (cpu_at i.M k) (short_of i.M i.fits k h) (lent_is m k p h i.M i.eq i.fits)

  pub lent_long : length (take (at + block_size - at) (drop at m)) ≡ block_size
  lent_long = ap length (lent_is m k p h i.M i.eq i.fits) ∙ length_cpu_words (cpu_at i.M k)

  pub cpu_found : (r : Cpu) → CpuRead (take (at + block_size - at) (drop at m)) r → CpuSound r × ((M : Machine) → m ≡ encode M → Fits c n M → cpu_in r ≡ cpu_at M k)
  cpu_found r o = (o.sound, λ M e f. o.is (cpu_at M k) (short_of M f k h) (lent_is m k p h M e f))
