-- The superseded timers taken out from the last to the first. Assumes nothing.
use mathlib.Core.Path.{◌≡◌, sym, ap, ◌∙◌}
use mathlib.Core.Bool.{Bool, true, false, not}
use mathlib.Core.List.{List}
use Prim.Native.Nat.{ℕ, suc, ◌-◌, ◌≤◌}
use native.Mathlib.Omega.{arith}
use lib.ListN.{length, get_or}
use Rattle.columns.specs.Columns.{remove_at}
use Rattle.columns.proofs.Keep.{length_keep}
use Rattle.columns.proofs.Thinned.{thinned, thinned_item, thinned_stays, thinned_out, thinned_whole}
use Rattle.entries.specs.declared.Timer.{Timer}
use Rattle.entries.specs.Order.{superseded}
use Rattle.percpu.specs.Cpu.{Cpu}
use Rattle.percpu.specs.With.{cpu_timers}
use Rattle.percpu.specs.Layout.{cpu_words, timer_at, no_timer}
use Rattle.percpu.specs.Places.{timers_count}
use Rattle.percpu.proofs.Read.{timer_is}
use Rattle.table.proofs.InBlock.{count_is}
use Rattle.timers.specs.Put.{newest}
use Rattle.timers.proofs.Table.{timer_table, timer_lies}

counted : (b : List ℕ) (c : Cpu) → b ≡ cpu_words c → get_or b timers_count 0 ≡ length c.timers
counted b c e = ap (λ (l : List ℕ). get_or l timers_count 0) e ∙ count_is timer_table timer_lies c

module _ (t : Timer) where
  abbrev left : Timer → Bool
  left u = not (superseded t u)

  -- the block b once the loop, from b₀ on, is at place i
  pub record Superseding (b₀ b : List ℕ) (i : ℕ) : Type 0 where
    pub long : i ≤ get_or b timers_count 0
    pub small : get_or b timers_count 0 ≤ 64
    pub words : (c : Cpu) → b₀ ≡ cpu_words c → length c.timers ≤ 64 → (i ≤ length c.timers) × (b ≡ cpu_words (cpu_timers (thinned left i c.timers) c))

  pub superseding_start : (b : List ℕ) (i : ℕ) → i ≡ get_or b timers_count 0 → i ≤ 64 → Superseding b b i
  superseding_start b i e h =
      record {
        long = omega arith;
        small = omega arith;
        words = λ c z g.
            let n : i ≡ length c.timers = e ∙ counted b c z
            in (omega arith, z ∙ ap (λ (l : List Timer). cpu_words (cpu_timers l c)) (sym (ap (λ (j : ℕ). thinned left j c.timers) n ∙ thinned_whole left c.timers)));
      }

  module _ {b₀ b : List ℕ} {i j : ℕ} (l : Superseding b₀ b i) (q : i ≡ suc j) (u : Timer) (hu : u ≡ timer_at b j) where
    -- timer j, as it was
    timer_was : (c : Cpu) → b₀ ≡ cpu_words c → length c.timers ≤ 64 → u ≡ get_or c.timers j no_timer
    timer_was c z g =
        let w = l.words c z g
        in let L : List Timer = thinned left i c.timers
        in let n : get_or b timers_count 0 ≡ length L = counted b (cpu_timers L c) w.1
        in hu ∙ ap (λ (y : List ℕ). timer_at y j) w.1
        ∙ timer_is (cpu_timers L c) j (omega (arith, l.long)) (omega (arith, l.small))
        ∙ ap (λ (y : ℕ). get_or (thinned left y c.timers) j no_timer) q
        ∙ thinned_item left no_timer j c.timers (omega (arith, w.0))

    pub superseding_out : {b' : List ℕ} → superseded t u ≡ true → get_or b' timers_count 0 ≡ get_or b timers_count 0 - 1
        → ((c : Cpu) → b ≡ cpu_words c → length c.timers ≤ 64 → b' ≡ cpu_words (cpu_timers (remove_at j c.timers) c)) → Superseding b₀ b' j
    superseding_out e n f =
        record {
          long = omega (arith, l.long);
          small = omega (arith, l.small);
          words = λ c z g.
              let w = l.words c z g
              in let L : List Timer = thinned left i c.timers
              in let s : get_or b timers_count 0 ≡ length L = counted b (cpu_timers L c) w.1
              in let k : left (get_or c.timers j no_timer) ≡ false = ap left (sym (timer_was c z g)) ∙ ap not e
              in (
                omega (arith, w.0),
                f (cpu_timers L c) w.1 (omega (arith, l.small))
                    ∙ ap (λ (y : List Timer). cpu_words (cpu_timers y c)) (ap (λ (y : ℕ). remove_at j (thinned left y c.timers)) q ∙ thinned_out left no_timer j c.timers (omega (arith, w.0)) k),
              );
        }

    pub superseding_stays : superseded t u ≡ false → Superseding b₀ b j
    superseding_stays e =
        record {
          long = omega (arith, l.long);
          small = l.small;
          words = λ c z g.
              let w = l.words c z g
              in let k : left (get_or c.timers j no_timer) ≡ true = ap left (sym (timer_was c z g)) ∙ ap not e
              in (
                omega (arith, w.0),
                w.1
                    ∙ ap (λ (y : List Timer). cpu_words (cpu_timers y c)) (ap (λ (y : ℕ). thinned left y c.timers) q ∙ thinned_stays left no_timer j c.timers (omega (arith, w.0)) k),
              );
        }

  pub superseding_end : {b₀ b : List ℕ} {i : ℕ} → Superseding b₀ b i → i ≡ 0 → (c : Cpu) → b₀ ≡ cpu_words c → length c.timers ≤ 64 → b ≡ cpu_words (newest t c)
  superseding_end l q c z g = (l.words c z g).1 ∙ ap (λ (y : ℕ). cpu_words (cpu_timers (thinned left y c.timers) c)) q

  pub newest_short : (c : Cpu) → length c.timers ≤ 64 → length (newest t c).timers ≤ 64
  newest_short c h = omega (arith, h, length_keep left c.timers)
