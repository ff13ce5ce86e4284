-- The choice, and the state after it, stay with the contexts that the CPU names. Assumes nothing.
use Rattle.std.specs.Prelude.{if◌then◌else◌, None, Option, Some}
use mathlib.Core.Path.{◌≡◌, refl, ap, ◌∙◌}
use mathlib.Core.Bool.{Bool, true, ◌&&◌, ◌||◌}
use mathlib.Core.List.{List, [], ◌∷◌}
use Prim.Native.Nat.{ℕ}
use lib.Dec.{leb}
use Rattle.columns.specs.Common.{All}
use Rattle.answer.specs.declared.Rule.TheVariants.{HolderAlone}
use Rattle.context.specs.declared.Context.{Context}
use Rattle.context.specs.Key.{queue_key, without_key}
use Rattle.entries.specs.declared.Key.{Key}
use Rattle.entries.specs.declared.Entry.{Entry}
use Rattle.entries.specs.Queue.{queue_remove, keyed}
use Rattle.entries.specs.Order.{entry_before}
use Rattle.percpu.specs.With.{cpu_v}
use Rattle.machine.specs.Machine.{context_at}
use Rattle.model.specs.State.{State, at, on_cpu, put_context, remove_key, holder, prev_runnable}
use Rattle.model.specs.Scan.{Scan, scan}
use Rattle.model.specs.Choice.{Choice, named, without_keys, cleaned_up, goes_before, prev_is_eligible, ineligible_holder, nobody, choice_by, choice, taken_out, chosen}
use Rattle.model.specs.Rule.{rule_nobody, rule_by, rule_of}
use Rattle.model.specs.Schedule.{scanned}
use Rattle.model.proofs.Cases.{pick}
use Rattle.model.proofs.Sorted.{all_remove}
use Rattle.model_local.specs.Local.{others, with_others}
use Rattle.model_local.proofs.Others.{branch, others_at, at_others, put_others}
use Rattle.model_local.proofs.Owned.{Owns, OfEntry, with_queue, with_record, without_entry as entry-out}
use Rattle.model_local.proofs.Charging.{holder_same}
use Rattle.model_local.proofs.Scanning.{Found, ScanOwns, scan_others, scan_owns, scan_moves}

abbrev pub Won : (ℕ → Bool) → Option ℕ → Type 0
Won S None = Unit {0}
Won S (Some x) = S x ≡ true

module _ (S : ℕ → Bool) (n : ℕ) (k time : ℕ) where
  pub scanned_owns : (s : State) → Owns S n s → ScanOwns S n (scanned k time s)
  scanned_owns s o = scan_owns S n [] k time s.cpu (ineligible_holder s) s.contexts s.cpu.queue o.count o.within.queued

  abbrev WonBy : Choice → Type 0
  WonBy w = Won S w.winner

  nobody_won : (s : State) (o : Option Entry) → Found S o → WonBy (nobody s o)
  nobody_won s None t = tt
  nobody_won s (Some e) t = pick WonBy (prev_runnable s && (leb (holder s).vtime e.vtime || leb (holder s).vd e.key.vd)) (λ y. tt) (λ y. t)

  -- who won is of the set
  pub choice_won : (s : State) (f : Scan) → ScanOwns S n f → WonBy (choice s f)
  unfolding choice
  choice_won s f o = go f.eligible_best o.eligible
    where
      go : (b : Option Entry) → Found S b → WonBy (choice_by s f b)
      go None t = pick WonBy (prev_is_eligible s) (λ y. tt) (λ y. nobody_won s f.ineligible_best o.ineligible)
      go (Some e) t = pick WonBy (prev_is_eligible s && goes_before (holder s) (context_at f.contexts e.context_ref)) (λ y. tt) (λ y. t)

  keys_out : (ks : List Key) (q : List Entry) → All (OfEntry S n) q → All (OfEntry S n) (without_keys q ks)
  keys_out [] q h = h
  keys_out (x ∷ xs) q h = keys_out xs (queue_remove x q) (all_remove entry_before (OfEntry S n) (keyed x) q h)

  taken_owns : (w : Option ℕ) (s : State) → Owns S n s → Owns S n (taken_out w s)
  taken_owns None s o = o
  taken_owns (Some x) s o =
      pick (Owns S n) (at s x).has_queue_key (λ y. entry-out S n (queue_key (at s x)) (with_record S n x (without_key (at s x)) o)) (λ y. o)

  pub chosen_owns : (w : Choice) (f : Scan) (s : State) → ScanOwns S n f → Owns S n s → Owns S n (chosen w f s)
  unfolding chosen cleaned_up
  chosen_owns w f s c o =
      taken_owns w.winner (on_cpu (cpu_v w.v) (cleaned_up f s))
      (with_queue S n (without_keys s.cpu.queue f.contexts_to_remove) (keys_out f.contexts_to_remove s.cpu.queue o.within.queued) (record { within = o.within; count = c.count }))

module _ (S : ℕ → Bool) (n : ℕ) (ds : List Context) where
  abbrev G : State → State
  G = others S ds

  abbrev H : Scan → Scan
  H = scan_others S ds

  eligible_same : (s : State) → Owns S n s → prev_is_eligible (G s) ≡ prev_is_eligible s
  eligible_same s o = rw (holder_same S n ds s o)

  pub scanned_moves : (k time : ℕ) (s : State) → Owns S n s → scanned k time (G s) ≡ H (scanned k time s)
  scanned_moves k time s o =
      ap (λ (h : Option ℕ). scan k time s.cpu h (with_others S ds s.contexts) s.cpu.queue) (rw (holder_same S n ds s o))
      ∙ scan_moves S n ds k time s.cpu (ineligible_holder s) s.contexts s.cpu.queue o.count o.within.queued

  nobody_same : (s : State) → Owns S n s → (b : Option Entry) → nobody (G s) b ≡ nobody s b
  nobody_same s o None = rw (holder_same S n ds s o)
  nobody_same s o (Some e) = rw (holder_same S n ds s o)

  pub choice_same : (s : State) (f : Scan) → Owns S n s → ScanOwns S n f → choice (G s) (H f) ≡ choice s f
  unfolding choice
  choice_same s f o c = go f.eligible_best c.eligible
    where
      go : (b : Option Entry) → Found S b → choice_by (G s) (H f) b ≡ choice_by s f b
      go None t = λ j.
          if eligible_same s o j
          then record { winner = None; v = s.cpu.block.v; locked = named f.ineligible_best }
          else nobody_same s o f.ineligible_best j
      go (Some e) t = rw (holder_same S n ds s o, others_at S ds f.contexts e.context_ref t)

  rule_nobody_same : (s : State) → Owns S n s → (b : Bool) (e : Option Entry) → rule_nobody (G s) b e ≡ rule_nobody s b e
  rule_nobody_same s o b None = rw (holder_same S n ds s o)
  rule_nobody_same s o b (Some e) = rw (holder_same S n ds s o)

  pub rule_same : (s : State) (f : Scan) → Owns S n s → ScanOwns S n f → (b : Bool) → rule_of (G s) b (H f) ≡ rule_of s b f
  unfolding rule_of
  rule_same s f o c b = go f.eligible_best c.eligible
    where
      go : (e : Option Entry) → Found S e → rule_by (G s) b (H f) e ≡ rule_by s b f e
      go None t = λ j. if eligible_same s o j then HolderAlone else rule_nobody_same s o b f.ineligible_best j
      go (Some e) t = rw (holder_same S n ds s o, others_at S ds f.contexts e.context_ref t)

  taken_moves : (w : Option ℕ) (s : State) → Won S w → taken_out w (G s) ≡ G (taken_out w s)
  taken_moves None s t = refl
  taken_moves (Some x) s t =
      rw (at_others S ds s x t)
      (branch G (at s x).has_queue_key {x = remove_key (queue_key (at s x)) (put_context x (without_key (at s x)) s)} {y = s}
      (ap (remove_key (queue_key (at s x))) (put_others S ds s x t (without_key (at s x)))) refl)

  pub chosen_moves : (w : Choice) (f : Scan) (s : State) → Won S w.winner → chosen w (H f) (G s) ≡ G (chosen w f s)
  unfolding chosen cleaned_up
  chosen_moves w f s t = taken_moves w.winner (on_cpu (cpu_v w.v) (cleaned_up f s)) t
