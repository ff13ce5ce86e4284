-- The scan of the state's queue, from its parts. Assumes nothing.
use Rattle.std.specs.Prelude.{Option}
use mathlib.Core.Path.{◌≡◌, refl, ap, ◌∙◌}
use mathlib.Core.List.{List}
use Prim.Native.Nat.{ℕ}
use lib.ListN.{take}
use Rattle.columns.specs.Common.{fold}
use Rattle.context.specs.declared.Context.{Context}
use Rattle.entries.specs.declared.Entry.{Entry}
use Rattle.entries.specs.Order.{entry_before}
use Rattle.percpu.specs.Cpu.{Cpu}
use Rattle.model.specs.Scan as kernel
use Rattle.model.specs.Scan.{judge}
use Rattle.model.specs.Choice.{ineligible_holder}
use Rattle.select_judge.specs.declared.Scanner.{Scanner}
use Rattle.select_judge.specs.Values.{cpu_with, scanner_cpu}
use Rattle.select_judge.specs.Holding.{Scanning}
use Rattle.plain_model.specs.Rank.{by_rank}
use Rattle.plain_model.specs.Scan.{looked_at, scan_step, scan}
use Rattle.plain_model.specs.Schedule.{scanned}
use Rattle.plain_lists.specs.Lists.{entries_of}
use Rattle.plain_state.specs.declared.State.{State}
use Rattle.plain_state.specs.States.{state_in}
use Rattle.plain_scan.specs.declared.Scan.{Scan}
use Rattle.plain_scan.specs.Scanned as scans
use Rattle.plain_select.specs.Started.{Started}

-- the scan goes by no more of the CPU than the code has
scan_with : (k time : ℕ) (p : Cpu) (h : Option ℕ) (cs : List Context) (q : List Entry)
    → scan k time (cpu_with p.block.idle_ctxt p.block.sched_ctxt p.block.current_ctxt p.block.v) h cs q ≡ scan k time p h cs q
unfolding scan scan_step looked_at judge
scan_with k time p h cs q = refl

module _ (n k time : ℕ) (s : State) (t : Scanner) (o : Scanning k time t (state_in n s)) where
  abbrev es : List Entry
  es = entries_of s.cpu.queue

  by_scanner : scan t.cpu_id t.time (scanner_cpu t) t.ineligible_holder (take n s.contexts) es ≡ scanned k time (state_in n s)
  by_scanner =
      (λ i. scan (o.cpu_id i) (o.time_is i) (cpu_with (o.idle i) (o.sched i) (o.current i) (o.v i)) (o.ineligible i) (take n s.contexts) es)
      ∙ scan_with k time (state_in n s).cpu (ineligible_holder (state_in n s)) (take n s.contexts) es

  pub scanned_all : {f r : Scan} → Started n s f → scans.Ran n t (scans.scan_of n f) (by_rank entry_before es) r → (scans.scan_of n r ≡ scanned k time (state_in n s)) × scans.Sound n r
  unfolding scan
  scanned_all {f} {r} b c = (
    c.is
        ∙ ap (λ (z : kernel.Scan). fold (scan_step t.cpu_id t.time (scanner_cpu t) t.ineligible_holder) z (by_rank entry_before es)) b.is
        ∙ by_scanner,
    c.sound,
  )
