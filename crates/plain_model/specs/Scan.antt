-- The scan: every entry is looked at in its turn, and flags say what is passed over. Assumes nothing.
use Rattle.std.specs.Prelude.{Bool, not, ◌&&◌, ◌||◌, List, [], ◌∷◌, ◌++◌, ℕ, ◌+◌, set, if◌then◌else◌, None, Option, Some, is_some}
use Rattle.columns.specs.Common.{fold}
use Rattle.context.specs.declared.Context.{Context}
use Rattle.entries.specs.declared.Entry.{Entry}
use Rattle.entries.specs.Order.{entry_before}
use Rattle.percpu.specs.Cpu.{Cpu}
use Rattle.machine.specs.Machine.{context_at}
use Rattle.model.specs.Scan.{Scan, Visit, pass, gone, blocked, no_addr_space, ready, above, below, is_of, ineligible_min_vtime, is_eligible, judge}
use Rattle.plain_model.specs.Rank.{by_rank}

-- the entry's record as it was judged
abbrev pub stored : Entry → Context → Scan → Scan
stored e c s =
    record {
      contexts = set s.contexts e.context_ref c;
      eligible_best = s.eligible_best;
      ineligible_best = s.ineligible_best;
      weight_change = s.weight_change;
      contexts_to_remove = s.contexts_to_remove;
    }

-- the entry is to leave the queue, and so much weight the total
abbrev pub given_up : ℕ → Entry → Scan → Scan
given_up n e s =
    record {
      contexts = s.contexts;
      eligible_best = s.eligible_best;
      ineligible_best = s.ineligible_best;
      weight_change = s.weight_change + n;
      contexts_to_remove = s.contexts_to_remove ++ (e.key ∷ []);
    }

-- only an active context counts in the total
abbrev pub weight_of : Entry → Context → ℕ
weight_of e c = if c.is_active then e.weight else 0

-- k: this CPU; p: its block; h: the vtime of a runnable holder that is not eligible
module _ (k time : ℕ) (p : Cpu) (h : Option ℕ) where
  -- an eligible entry was found: those behind it are not looked at
  abbrev pub is_over : Scan → Bool
  is_over s = is_some s.eligible_best

  -- later than the least late vtime so far, a late holder's to begin with: not even cleaned up
  abbrev pub is_later : Scan → Entry → Bool
  is_later s e = above (ineligible_min_vtime s.ineligible_best h) e.vtime && not (is_eligible p e)

  -- the best late entry so far keeps its context locked
  abbrev pub is_locked : Scan → Entry → Bool
  is_locked s e = is_of s.ineligible_best e.context_ref && not (context_at s.contexts e.context_ref).gone

  -- ready: it is the first eligible one, or the first of the least late vtime; at an equal vtime it is not taken
  abbrev pub taken : Entry → Scan → Scan
  taken e s =
      record {
        contexts = s.contexts;
        eligible_best = if is_eligible p e then Some e else s.eligible_best;
        ineligible_best =
            if is_eligible p e then s.ineligible_best else
            if below (ineligible_min_vtime s.ineligible_best h) e.vtime then Some e else s.ineligible_best;
        weight_change = s.weight_change;
        contexts_to_remove = s.contexts_to_remove;
      }

  unfoldable pub looked_at : Scan → Entry → Visit → Scan
  looked_at s e pass = s
  looked_at s e gone = given_up e.weight e s
  looked_at s e (blocked c) = given_up (weight_of e (context_at s.contexts e.context_ref)) e (stored e c s)
  looked_at s e (no_addr_space c) = stored e c s
  looked_at s e (ready c) = taken e (stored e c s)

  unfoldable pub scan_step : Scan → Entry → Scan
  scan_step s e =
      if is_over s || (is_later s e || is_locked s e) then s else
      looked_at s e (judge k time p (context_at s.contexts e.context_ref) e)

  abbrev pub scan_start : List Context → Scan
  scan_start cs = record { contexts = cs; eligible_best = None; ineligible_best = None; weight_change = 0; contexts_to_remove = [] }

  unfoldable pub scan : List Context → List Entry → Scan
  scan cs q = fold scan_step (scan_start cs) (by_rank entry_before q)
