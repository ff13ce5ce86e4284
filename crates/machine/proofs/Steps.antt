-- How steps on the image compose, and what keeps a machine fitting. Assumes nothing.
use mathlib.Core.Path.{◌≡◌, ap, ◌∙◌}
use Prim.Native.Nat.{ℕ, zero, suc, ◌≤◌}
use mathlib.Core.List.{List, [], ◌∷◌}
use lib.ListN.{length, get_or, set, length-set}
use Rattle.context.specs.declared.Context.{Context}
use Rattle.percpu.specs.Cpu.{Cpu}
use Rattle.machine.specs.Machine.{Machine, cpu_at, set_context, set_cpu, no_context, no_cpu}
use Rattle.machine.specs.Encode.{encode, cpu_place}
use Rattle.machine.specs.Shape.{ContextFits, CpuFits, Fits, Image, Step}
use Rattle.machine.proofs.Places.{length_encode}

-- what the sizes say of the words
pub record Size (c n : ℕ) (m : List ℕ) : Type 0 where
  pub cpus : c ≤ 4
  pub contexts : n ≤ 64
  pub size : length m ≡ cpu_place n c

pub sized : {c n : ℕ} {m : List ℕ} → Image c n m → Size c n m
sized {c} {n} {m} i =
    record {
      cpus = i.fits.bounds.1;
      contexts = i.fits.bounds.3;
      size = rw i.eq (length_encode i.M ∙ rw (i.fits.cpus, i.fits.contexts));
    }

pub stepped : {R : Type 0} {c n : ℕ} {m m' : List ℕ} {r : R} {f : Machine → Machine} {g : Machine → R} → Image c n m
    → ((M : Machine) → m ≡ encode M → Fits c n M → (m' ≡ encode (f M)) × (Fits c n (f M)) × (r ≡ g M)) → Step c n m m' r f g
stepped i t = let s = t i.M i.eq i.fits in record { image = record { M = _; eq = s.0; fits = s.1 }; step = t }

pub step_then : {R S : Type 0} {c n : ℕ} {m m' m'' : List ℕ} {r : R} {s : S} {f f' : Machine → Machine} {g : Machine → R} {g' : Machine → S}
    → Step c n m m' r f g → Step c n m' m'' s f' g' → Step c n m m'' s (λ (M : Machine). f' (f M)) (λ (M : Machine). g' (f M))
step_then t u = record { image = u.image; step = λ M e o. let s = t.step M e o in u.step _ s.0 s.1 }

-- the same step in other words, with what it answered at hand
pub step_as : {R S : Type 0} {c n : ℕ} {m m' : List ℕ} {r : R} {s : S} {f f' : Machine → Machine} {g : Machine → R} {g' : Machine → S}
    → Step c n m m' r f g → ((M : Machine) → m ≡ encode M → Fits c n M → r ≡ g M → (f M ≡ f' M) × (s ≡ g' M)) → Step c n m m' s f' g'
step_as t h =
    record {
      image = t.image;
      step = λ M e o.
          let s = t.step M e o
          in let w = h M e o s.2
          in (s.0 ∙ ap encode w.0, rw w.0 at s.1, w.1);
    }

-- what holds of an element, and of what is set, holds after
pub get_d_set : {A : Type 0} (l : List A) (i j : ℕ) (a d : A) → (P : A → Type 0) → P a → P (get_or l j d) → P (get_or (set l i a) j d)
get_d_set [] i j a d P p q = q
get_d_set (x ∷ xs) zero zero a d P p q = p
get_d_set (x ∷ xs) zero (suc j) a d P p q = q
get_d_set (x ∷ xs) (suc i) zero a d P p q = q
get_d_set (x ∷ xs) (suc i) (suc j) a d P p q = get_d_set xs i j a d P p q

pub fits_context : {c n : ℕ} (M : Machine) (x : ℕ) (q : Context) → Fits c n M → ContextFits c q → Fits c n (set_context x q M)
unfolding cpu_at
fits_context {c} M x q o f =
    record {
      bounds = o.bounds;
      cpus = o.cpus;
      contexts = length-set M.contexts x q ∙ o.contexts;
      context = λ y h. get_d_set M.contexts x y q no_context (ContextFits c) f (o.context y h);
      cpu = o.cpu;
    }

pub fits_cpu : {c n : ℕ} (M : Machine) (k : ℕ) (p : Cpu) → Fits c n M → CpuFits n p → Fits c n (set_cpu k p M)
unfolding cpu_at
fits_cpu {n = n} M k p o f =
    record {
      bounds = o.bounds;
      cpus = length-set M.cpus k p ∙ o.cpus;
      contexts = o.contexts;
      context = o.context;
      cpu = λ j h. get_d_set M.cpus k j p no_cpu (CpuFits n) f (o.cpu j h);
    }
