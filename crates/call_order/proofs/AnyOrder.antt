-- A list of switches of CPUs that are pairwise apart gives the same image and answers in every order that keeps each CPU's own.
use Rattle.std.specs.Prelude.{if◌then◌else◌}
use mathlib.Core.Path.{◌≡◌, refl, sym, ap, ◌∙◌, subst}
use mathlib.Core.Logic.{◌≢◌}
use mathlib.Core.Bool.{Bool, true, false}
use mathlib.Core.List.{List, [], ◌∷◌}
use Prim.Native.Nat.{ℕ, suc, ◌<◌}
use native.Mathlib.Omega.{arith}
use lib.Dec.{eqb, ltb}
use lib.ListN.{length}
use borrow.Author.Tests.{ltb-true, ltb-false, eq-eqb}
use Rattle.columns.specs.Common.{In}
use Rattle.columns.proofs.Tabulate.{get_d_past}
use Rattle.percpu.specs.Cpu.{Cpu}
use Rattle.percpu.specs.Words.{block_of}
use Rattle.machine.specs.Machine.{Machine, cpu_at, no_cpu}
use Rattle.machine.specs.Encode.{encode, decode}
use Rattle.model.proofs.Cases.{by_test, never}
use Rattle.model_local.specs.Names.{names, is_named}
use Rattle.model_local.proofs.Named.{within_named}
use Rattle.model_local.proofs.Either.{not_both}
use Rattle.call_order.specs.Order.{image_of}
use Rattle.call_order.specs.Runs.{Switch, own, image_after, AllAcceptedIn, answers_of, NeverSteals, PairwiseApart, AllBy, AnyOrder}
use Rattle.call_order.proofs.Switched.{switched}
use Rattle.call_order.proofs.Runs.{after, machine_after, alone, answers, Parts, runs, answered, parts_same}

-- a present CPU is one of the machine's
present_below : (M : Machine) (k : ℕ) → (cpu_at M k).block.present ≡ true → k < length M.cpus
unfolding cpu_at no_cpu block_of
present_below M k t =
    by_test (ltb k (length M.cpus)) (λ y. ltb-true k _ y)
    (λ y. never t (ap (λ (p : Cpu). p.block.present) (get_d_past M.cpus k no_cpu (ltb-false k _ y))))

-- from words to machines
machine_is : (m : List ℕ) (cs : List Switch) → AllAcceptedIn m cs → decode (image_after m cs) ≡ machine_after (decode m) cs
machine_is m [] h = refl
machine_is m (c ∷ cs) h =
    let s = switched m c.cpu c.time h.0 in
    machine_is (image_of m c.cpu c.time) cs h.1 ∙ ap (λ (N : Machine). machine_after N cs) s.machine

answers_are : (k : ℕ) (m : List ℕ) (cs : List Switch) → AllAcceptedIn m cs → answers_of k m cs ≡ answers k (decode m) cs
answers_are k m [] h = refl
answers_are k m (c ∷ cs) h =
    let s = switched m c.cpu c.time h.0 in
    let r : answers_of k (image_of m c.cpu c.time) cs ≡ answers k (after c (decode m)) cs =
    answers_are k (image_of m c.cpu c.time) cs h.1 ∙ ap (λ (N : Machine). answers k N cs) s.machine in
    λ j. if eqb c.cpu k then s.answer j ∷ r j else r j

-- the last image is that of the last machine, if there is a call; else it is the first
image_is : (m : List ℕ) (c : Switch) (cs : List Switch) → AllAcceptedIn m (c ∷ cs) → image_after m (c ∷ cs) ≡ encode (machine_after (decode m) (c ∷ cs))
image_is m c [] h = (switched m c.cpu c.time h.0).image
image_is m c (d ∷ ds) h =
    let s = switched m c.cpu c.time h.0 in
    image_is (image_of m c.cpu c.time) d ds h.1 ∙ ap (λ (N : Machine). encode (machine_after N (d ∷ ds))) s.machine

module _ (m : List ℕ) (ks : List ℕ) (h : PairwiseApart (decode m) ks) where
  abbrev M : Machine
  M = decode m

  abbrev S : ℕ → ℕ → Bool
  S k = is_named (names (cpu_at M k))

  disjoint : (k j : ℕ) → In k ks → In j ks → k ≢ j → (x : ℕ) → S j x ≡ true → S k x ≡ false
  disjoint k j i l d x t = not_both (S k x) (S j x) (h.apart k j i l d x) t

  below : (k : ℕ) → In k ks → k < length M.cpus
  below k i = present_below M k (h.present k i)

  start : Parts ks S disjoint M below M (λ (k : ℕ). M)
  start =
      record {
        alike = λ k i. record { count = refl; here = refl; inside = λ x t. refl };
        within = λ k i. within_named (names (cpu_at M k));
        count = refl;
        cpus = refl;
        own_cpus = λ k i. refl;
        outside = λ x f. refl;
        there = λ j n. refl;
      }

  module _ (cs ds : List Switch) (by : AllBy ks cs) (by' : AllBy ks ds) (same : (k : ℕ) → own k ds ≡ own k cs) (quiet : (k : ℕ) → In k ks → NeverSteals M (own k cs)) where
    quiet' : (k : ℕ) → In k ks → NeverSteals M (own k ds)
    quiet' k i = subst (NeverSteals M) (sym (same k)) (quiet k i)

    machines_same : machine_after M ds ≡ machine_after M cs
    machines_same =
        parts_same ks S disjoint M below (machine_after M ds) (machine_after M cs) (λ (k : ℕ). machine_after M (own k cs))
        (subst (Parts ks S disjoint M below (machine_after M ds)) (λ j (k : ℕ). machine_after M (same k j)) (runs ks S disjoint M below ds by' M (λ (k : ℕ). M) start quiet'))
        (runs ks S disjoint M below cs by M (λ (k : ℕ). M) start quiet)

    answers_same : (k : ℕ) → answers k M ds ≡ answers k M cs
    answers_same k =
        answered ks S disjoint M below k ds by' M (λ (j : ℕ). M) start quiet'
        ∙ ap (alone M) (same k)
        ∙ sym (answered ks S disjoint M below k cs by M (λ (j : ℕ). M) start quiet)

-- a list with a switch has one of its CPU
not_none : (c : Switch) (cs : List Switch) → own c.cpu (c ∷ cs) ≡ [] → ⊥
not_none c cs e = let z : suc (length (own c.cpu cs)) ≡ 0 = ap length (rw (eq-eqb c.cpu c.cpu refl) at e) in omega arith

images_same : (m : List ℕ) (cs ds : List Switch) → ((k : ℕ) → own k ds ≡ own k cs) → AllAcceptedIn m cs → AllAcceptedIn m ds → machine_after (decode m) ds ≡ machine_after (decode m) cs
    → image_after m ds ≡ image_after m cs
images_same m [] [] same a b e = refl
images_same m [] (d ∷ ds) same a b e = absurd (not_none d ds (same d.cpu))
images_same m (c ∷ cs) [] same a b e = absurd (not_none c cs (sym (same c.cpu)))
images_same m (c ∷ cs) (d ∷ ds) same a b e = image_is m d ds b ∙ ap encode e ∙ sym (image_is m c cs a)

pub any_order : AnyOrder
any_order m ks cs ds h by by' same quiet a b = (
  images_same m cs ds same a b (machines_same m ks h cs ds by by' same quiet),
  λ k. answers_are k m ds b ∙ answers_same m ks h cs ds by by' same quiet k ∙ sym (answers_are k m cs a),
)
