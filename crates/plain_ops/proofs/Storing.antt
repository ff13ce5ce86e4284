-- The words that are written stand for the machine decided on, every list placed. Assumes nothing.
use mathlib.Core.Path.{◌≡◌, refl, ap, ◌∙◌}
use mathlib.Core.List.{List, [], ◌∷◌, map}
use Prim.Native.Nat.{ℕ, ◌≤◌}
use native.Mathlib.Omega.{arith}
use lib.ListN.{length, take, set}
use lib.Seq.{length-take-le}
use Rattle.percpu.specs.Cpu.{Cpu}
use Rattle.machine.specs.Machine.{Machine}
use Rattle.machine.specs.Encode.{encode}
use Rattle.plain_model.specs.State.{placed_cpu, placed_machine}
use Rattle.plain_state.specs.declared.Cpu as code
use Rattle.plain_state.specs.States.{cpu_in, Sound}
use Rattle.plain_words.specs.Stored.{ImageSized, Encoded, placed_in, with_contexts, with_cpus}
use Rattle.plain_steal.specs.declared.cpus.Cpus.{Cpus}
use Rattle.plain_steal.specs.Stealing.{cpus_in, CpusBecame}
use Rattle.plain_decide.specs.declared.switching.Decided.{Decided}
use Rattle.plain_decide.specs.Decided.{decided_in}

placed_all : (l : List code.Cpu) → map placed_in l ≡ map placed_cpu (map cpu_in l)
placed_all [] = refl
placed_all (p ∷ l) = ap (λ (z : List Cpu). placed_in p ∷ z) (placed_all l)

module _ (c n k : ℕ) (d : Decided) {m m₁ m₂ : List ℕ} (z : ImageSized c n m) (o : Sound n d.state) {x : Cpus} (b : CpusBecame c x (set (cpus_in c d.cpus) k (cpu_in d.state.cpu)))
    (h : Encoded c n m m₁ (with_contexts (take n d.state.contexts))) (g : Encoded c n m₁ m₂ (with_cpus (map placed_in (take c x.cpus)))) where
  pub stored : Encoded c n m m₂ (λ (M : Machine). placed_machine (decided_in n c k d).machine)
  stored =
      record {
        sized = g.sized;
        encoded =
            λ M p q e.
            let u : length d.state.contexts ≡ 64 = o.contexts in
            let v : n ≤ 64 = o.few in
            let w : length (take n d.state.contexts) ≡ n = length-take-le n d.state.contexts (omega arith) in
            g.encoded (with_contexts (take n d.state.contexts) M) p w (h.encoded M p q e)
            ∙ ap (λ (ps : List Cpu). encode (record { contexts = take n d.state.contexts; cpus = ps })) (placed_all (take c x.cpus) ∙ ap (map placed_cpu) b.is);
      }
