-- The building blocks on one CPU's block. Assumes nothing.
use mathlib.Core.Path.{◌≡◌, refl, sym, ap, ◌∙◌, subst}
use mathlib.Core.Bool.{Bool, true, false, ◌&&◌, ◌||◌}
use Prim.Native.Nat.{ℕ, zero, suc, ◌+◌, ◌-◌, ◌*◌, ◌<◌, ◌≤◌}
use native.Mathlib.Omega.{arith}
use mathlib.Core.List.{List, [], ◌∷◌, ◌++◌}
use lib.Dec.{leb, ltb, eqb}
use lib.ListN.{length, get_or, set, take, drop, length-append}
use borrow.Author.Tests.{lt-leb, le-leb}
use borrow.Rule.Slice.PartMut.{put_mid}
use Rattle.columns.proofs.Tests.{never}
use Rattle.columns.specs.Blocks.{part, flat}
use Rattle.cpu_stats.specs.Words.{stats_words, stats_of}
use Rattle.entries.specs.declared.Entry.{Entry}
use Rattle.entries.specs.declared.Key.{Key}
use Rattle.entries.specs.Queue.{queue_insert, queue_remove}
use Rattle.percpu.specs.declared.PercpuBlock.{PercpuBlock}
use Rattle.percpu.specs.Cpu.{Cpu}
use Rattle.percpu.specs.Words.{block_words, block_of, block_of_words}
use Rattle.percpu.specs.With.{cpu_block, cpu_queue, cpu_queue_len, cpu_local_wakeup_list, cpu_remainder}
use Rattle.percpu.specs.Places.{remainder_place}
use Rattle.percpu.specs.Layout.{cpu_words, counts, columns}
use Rattle.percpu.proofs.Read.{remainder_put}
use Rattle.run_queue.specs.Put.{no_room, queue_put}
use Rattle.wakeup_lists.proofs.Pushed.{local_listed}

pub loaded : (b : List ℕ) (r : PercpuBlock) (p : Cpu) → r ≡ block_of (take 21 b) → b ≡ cpu_words p → r ≡ p.block
unfolding cpu_words block_words stats_words block_of part
loaded b r p e z = e ∙ ap (λ (l : List ℕ). block_of (take 21 l)) z ∙ block_of_words p.block

pub stored : (b l : List ℕ) (v : PercpuBlock) (p : Cpu) → l ≡ block_words v → b ≡ cpu_words p → put_mid 0 21 b l ≡ cpu_words (cpu_block v p)
unfolding cpu_words block_words stats_words counts columns
stored b l v p e z = rw (e, z)

pub remainder_stored : (b : List ℕ) (x : ℕ) (p : Cpu) → b ≡ cpu_words p → set b remainder_place x ≡ cpu_words (cpu_remainder x p)
remainder_stored b x p z = rw z (remainder_put p x)

-- the length published
published_len : (p : Cpu) → set (cpu_words p) 9 (get_or (cpu_words p) 21 0) ≡ cpu_words (cpu_queue_len (length p.queue) p)
unfolding cpu_words block_words stats_words counts columns
published_len p = refl

pub published : (b : List ℕ) (p : Cpu) → b ≡ cpu_words p → set b 9 (get_or b 21 0) ≡ cpu_words (cpu_queue_len (length p.queue) p)
published b p z = rw z (published_len p)

-- what was inserted, published
pub inserted : (b : List ℕ) (e : Entry) (p : Cpu) {r : Bool} → r ≡ no_room e p → r ≡ false → b ≡ cpu_words (queue_put e p)
    → set b 9 (get_or b 21 0) ≡ cpu_words (cpu_queue_len (length (queue_insert e p.queue)) (cpu_queue (queue_insert e p.queue) p))
inserted b e p q f z =
    let t : no_room e p ≡ false = sym q ∙ f
    in published b (cpu_queue (queue_insert e p.queue) p) (z ∙ rw t)

pub local_count : (b : List ℕ) (p : Cpu) → b ≡ cpu_words p → get_or b 23 0 ≡ length p.local_wakeup_list
local_count b p z = rw z (local_listed p).count_is

pub local_full : (b : List ℕ) (p : Cpu) → b ≡ cpu_words p → 64 ≤ get_or b 23 0 → true ≡ leb 64 (length p.local_wakeup_list)
local_full b p z h = sym (le-leb 64 (length p.local_wakeup_list) (rw (local_count b p z) at h))

pub local_room : (b : List ℕ) (p : Cpu) → b ≡ cpu_words p → get_or b 23 0 < 64 → false ≡ leb 64 (length p.local_wakeup_list)
local_room b p z h = sym (lt-leb 64 (length p.local_wakeup_list) (rw (local_count b p z) at h))
