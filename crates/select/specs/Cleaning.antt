-- The clean-up in the code's order: the block first, then the keys one by one. Assumes nothing.
use Rattle.std.specs.Prelude.{List, ℕ, ◌-◌, length}
use Rattle.columns.specs.Common.{fold}
use Rattle.entries.specs.declared.Key.{Key}
use Rattle.percpu.specs.declared.PercpuBlock.{PercpuBlock}
use Rattle.percpu.specs.Cpu.{Cpu}
use Rattle.percpu.specs.With.{block_total_weight, block_published_weight, block_queue_len, block_v, cpu_block}
use Rattle.model.specs.State.{State, on_cpu, remove_key}
use Rattle.model.specs.Scan.{Scan}
use Rattle.model.specs.Choice.{choice, taken_out}

-- less weight, a queue's length published, and V
abbrev pub lightened : PercpuBlock → (change len v : ℕ) → PercpuBlock
lightened b change len v =
    block_v v (block_queue_len len (block_published_weight (b.total_weight - change) (block_total_weight (b.total_weight - change) b)))

unfoldable pub remove_keys : List Key → State → State
remove_keys ks s = fold (λ (a : State) (k : Key). remove_key k a) s ks

unfoldable pub cleaned : ℕ → List Key → ℕ → State → State
cleaned change ks v s =
    remove_keys ks (on_cpu (λ (p : Cpu). cpu_block (lightened p.block change (length p.queue) v) p) s)

-- the choice for the holder of s, after the scan f, in the state a
unfoldable pub chosen_after : State → Scan → State → State
chosen_after s f a = taken_out (choice s f).winner (cleaned f.weight_change f.contexts_to_remove (choice s f).v a)
