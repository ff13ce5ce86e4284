-- The scan of the queue, in key order. Assumes nothing.
use Rattle.std.specs.Prelude.{Bool, true, false, not, ◌&&◌, ◌||◌, List, [], ◌∷◌, ◌++◌, ℕ, ◌+◌, ltb, leb, eqb, set, if◌then◌else◌, None, Option, Some, is_some}
use Rattle.columns.specs.Common.{fold}
use Rattle.context.specs.declared.Context.{Context}
use Rattle.context.specs.With.{with_rem_slice, with_is_active}
use Rattle.entries.specs.declared.Key.{Key}
use Rattle.entries.specs.declared.Entry.{Entry}
use Rattle.runnable.specs.declared.UpdateResult.{UpdateResult}
use Rattle.runnable.specs.declared.UpdateResult.TheVariants.{CanSwitch, Skip, Blocked}
use Rattle.runnable.specs.Runnable.{update_runnable}
use Rattle.percpu.specs.Cpu.{Cpu}
use Rattle.machine.specs.Machine.{context_at}
use Rattle.context.specs.Key.{without_key}

-- what the scan has found so far
pub record Scan : Type 0 where
  pub contexts : List Context
  -- the first ready entry that is eligible: the scan ends there
  pub eligible_best : Option Entry
  -- the first ready entry of the least vtime, among those not eligible
  pub ineligible_best : Option Entry
  -- weight that leaves the total, and keys that leave the queue
  pub weight_change : ℕ
  pub contexts_to_remove : List Key

-- what an entry is to the scan
pub data Visit : Type 0 where
  pass : Visit
  gone : Visit
  blocked : Context → Visit
  no_addr_space : Context → Visit
  ready : Context → Visit

abbrev pub is_ready : Visit → Bool
is_ready pass = false
is_ready gone = false
is_ready (blocked c) = false
is_ready (no_addr_space c) = false
is_ready (ready c) = true

abbrev pub above : Option ℕ → ℕ → Bool
above None n = false
above (Some m) n = ltb m n

abbrev pub below : Option ℕ → ℕ → Bool
below None n = true
below (Some m) n = ltb n m

abbrev pub is_of : Option Entry → ℕ → Bool
is_of None x = false
is_of (Some e) x = eqb e.context_ref x

-- that of the best ineligible entry so far, or of an ineligible holder
abbrev pub ineligible_min_vtime : Option Entry → Option ℕ → Option ℕ
ineligible_min_vtime None h = h
ineligible_min_vtime (Some e) h = Some e.vtime

abbrev pub by_update : Context → UpdateResult → Visit
by_update c Skip = pass
by_update c Blocked = blocked (without_key (with_is_active false (with_rem_slice 0 c)))
by_update c (CanSwitch c') = if eqb c.addr_space 2 then no_addr_space c' else ready c'

-- stored vtime at most V
abbrev pub is_eligible : Cpu → Entry → Bool
is_eligible p e = leb e.vtime p.block.v

-- k: this CPU; p: its block, after wake-ups and charging
module _ (k time : ℕ) (p : Cpu) where
  -- an entry, judged by itself
  unfoldable pub judge : Context → Entry → Visit
  judge c e =
      let x = e.context_ref in
      if c.gone then gone else
      if eqb x p.block.idle_ctxt || eqb x p.block.sched_ctxt then pass else
      if not (eqb c.lock 0) then pass else
      by_update c (update_runnable k time false (eqb x p.block.current_ctxt) c)

  -- an entry is ready, judged on the contexts as they are
  abbrev pub is_ready_in : List Context → Entry → Bool
  is_ready_in cs e = is_ready (judge (context_at cs e.context_ref) e)

-- h: the vtime of a runnable holder that is not eligible
module _ (k time : ℕ) (p : Cpu) (h : Option ℕ) where
  -- passed over for a late vtime, or because this scan holds its lock; else judged
  unfoldable pub visit : Scan → Entry → Visit
  visit s e =
      if above (ineligible_min_vtime s.ineligible_best h) e.vtime && not (is_eligible p e) then pass else
      if is_of s.ineligible_best e.context_ref && not (context_at s.contexts e.context_ref).gone then pass else
      judge k time p (context_at s.contexts e.context_ref) e

  -- what the scan makes of it
  unfoldable pub visited : Scan → Entry → Visit → Scan
  visited s e pass = s
  visited s e gone =
      record {
        contexts = s.contexts;
        eligible_best = s.eligible_best;
        ineligible_best = s.ineligible_best;
        weight_change = s.weight_change + e.weight;
        contexts_to_remove = s.contexts_to_remove ++ (e.key ∷ []);
      }
  visited s e (blocked c) =
      record {
        contexts = set s.contexts e.context_ref c;
        eligible_best = s.eligible_best;
        ineligible_best = s.ineligible_best;
        weight_change = s.weight_change + (if (context_at s.contexts e.context_ref).is_active then e.weight else 0);
        contexts_to_remove = s.contexts_to_remove ++ (e.key ∷ []);
      }
  visited s e (no_addr_space c) =
      record {
        contexts = set s.contexts e.context_ref c;
        eligible_best = s.eligible_best;
        ineligible_best = s.ineligible_best;
        weight_change = s.weight_change;
        contexts_to_remove = s.contexts_to_remove;
      }
  visited s e (ready c) =
      record {
        contexts = set s.contexts e.context_ref c;
        eligible_best = if is_eligible p e then Some e else s.eligible_best;
        ineligible_best =
            if is_eligible p e then s.ineligible_best else
            if below (ineligible_min_vtime s.ineligible_best h) e.vtime then Some e else s.ineligible_best;
        weight_change = s.weight_change;
        contexts_to_remove = s.contexts_to_remove;
      }

  unfoldable pub scan_step : Scan → Entry → Scan
  scan_step s e = if is_some s.eligible_best then s else visited s e (visit s e)

  abbrev pub scan_start : List Context → Scan
  scan_start cs =
      record { contexts = cs; eligible_best = None; ineligible_best = None; weight_change = 0; contexts_to_remove = [] }

  unfoldable pub scan : List Context → List Entry → Scan
  scan cs q = fold scan_step (scan_start cs) q
