-- The same entries and timers in another order, by mathlib's permutations. Assumes nothing.
use Rattle.std.specs.Prelude.{◌≡◌}
use mathlib.Core.List.{List, [], ◌∷◌, Permᴰ}
use Rattle.columns.specs.Common.{All}
use Rattle.percpu.specs.Cpu.{Cpu}
use Rattle.percpu.specs.With.{cpu_queue, cpu_timers}
use Rattle.machine.specs.Machine.{Machine}
use Rattle.plain_model.specs.State.{Different}

-- a CPU but for the order of its entries and timers; its local and interrupt lists keep theirs
pub record Reordered (p q : Cpu) : Type 0 where
  pub rest : cpu_queue [] (cpu_timers [] p) ≡ cpu_queue [] (cpu_timers [] q)
  pub queue : Permᴰ p.queue q.queue
  pub timers : Permᴰ p.timers q.timers

abbrev pub AllReordered : List Cpu → List Cpu → Type 0
AllReordered [] [] = Unit {0}
AllReordered [] (q ∷ qs) = ⊥
AllReordered (p ∷ ps) [] = ⊥
AllReordered (p ∷ ps) (q ∷ qs) = Reordered p q × AllReordered ps qs

pub record ReorderedMachine (M M' : Machine) : Type 0 where
  pub contexts : M.contexts ≡ M'.contexts
  pub cpus : AllReordered M.cpus M'.cpus

-- on every CPU the keys of the entries differ, and the timers
abbrev pub AllDifferent : List Cpu → Type 0
AllDifferent ps = All Different ps
