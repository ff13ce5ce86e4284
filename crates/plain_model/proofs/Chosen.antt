-- The choice and its rule are the kernel's, and so is what it takes out of the queue. Assumes nothing.
use Rattle.std.specs.Prelude.{if◌then◌else◌, None, Option, Some}
use mathlib.Core.Path.{◌≡◌, refl, sym, ap, ◌∙◌}
use mathlib.Core.Bool.{Bool, true, false, not, ◌&&◌, ◌||◌}
use mathlib.Core.List.{List, [], ◌∷◌}
use Prim.Native.Nat.{ℕ}
use lib.Dec.{ltb, leb, eqb}
use Rattle.context.specs.declared.Context.{Context}
use Rattle.context.specs.Key.{queue_key, without_key}
use Rattle.entries.specs.declared.Key.{Key}
use Rattle.entries.specs.declared.Entry.{Entry}
use Rattle.entries.specs.Order.{entry_before}
use Rattle.entries.specs.Queue.{keyed}
use Rattle.entries.proofs.Ordered.{entries_ordered}
use Rattle.percpu.specs.With.{cpu_v}
use Rattle.machine.specs.Machine.{context_at}
use Rattle.answer.specs.declared.Rule.{Rule}
use Rattle.answer.specs.declared.Rule.TheVariants.{FirstEligible, HolderAlone, HolderVtime, HolderLateDeadline, EntryVtime, Idle}
use Rattle.model.specs.State.{State, at, on_cpu, remove_key, holder, prev_runnable}
use Rattle.model.specs.Scan.{Scan}
use Rattle.model.specs.Choice.{Choice, named, choice, choice_by, nobody, prev_is_eligible, without_keys, cleaned_up, dequeued, taken_out, chosen}
use Rattle.model.specs.Rule.{rule_of, rule_by, rule_nobody}
use Rattle.plain_model.specs.Rank.{by_rank, Differ}
use Rattle.plain_model.specs.State as lists
use Rattle.plain_model.specs.State.{placed, Different}
use Rattle.plain_model.specs.Choice as plain
use Rattle.plain_model.proofs.Ranked.{length_by_rank}
use Rattle.plain_model.proofs.Placing.{leave_out_differs}
use Rattle.plain_model.proofs.Places.{through_if, Places, places, by_placed, if_places, queue_without_is, put_placed, remove_placed}

-- the choice without its rule
abbrev pub choice_in : plain.Choice → Choice
choice_in w = record { winner = w.winner; v = w.v; locked = w.locked }

-- one test of two is two tests
module _ {B T : Type 0} (f : B → T) where
  two_tests : (a l e : Bool) {x : T} (y : B) {u w : B} → f u ≡ x → f w ≡ x
      → if a && (l || e) then x else f y ≡ f (if a && l then u else if a && e then w else y)
  two_tests true true e y p q = sym p
  two_tests true false true y p q = sym q
  two_tests true false false y p q = refl
  two_tests false l e y p q = refl

  first_test : (a l e : Bool) {x z : T} (y : B) {u w : B} → f u ≡ x → f w ≡ z
      → if not (a && (l || e)) then f y else if l then x else z ≡ f (if a && l then u else if a && e then w else y)
  first_test true true e y p q = sym p
  first_test true false true y p q = sym q
  first_test true false false y p q = refl
  first_test false l e y p q = refl

module _ (s : State) (f : Scan) where
  -- the holder's deadline, or its slice at an equal one
  abbrev earlier : Entry → Bool
  earlier e = ltb (holder s).vd (context_at f.contexts e.context_ref).vd

  abbrev longer : Entry → Bool
  longer e =
      let c = context_at f.contexts e.context_ref in
      eqb (holder s).vd c.vd && ltb c.rem_slice (holder s).rem_slice

  alone : (a : Bool) (x y : ℕ) (r t : Rule)
      → record { winner = None; v = if a then x else y; locked = [] } ≡ choice_in (if a then plain.nobody_wins r x [] else plain.nobody_wins t y [])
  alone true x y r t = refl
  alone false x y r t = refl

  nobody_is : (o : Option Entry) → nobody (placed s) o ≡ choice_in (plain.nobody s f o)
  nobody_is None = alone (prev_runnable s) (holder s).vtime s.cpu.block.v HolderVtime Idle
  nobody_is (Some e) =
      two_tests choice_in (prev_runnable s) (leb (holder s).vtime e.vtime) (leb (holder s).vd e.key.vd) (plain.wins_by EntryVtime e.context_ref e.vtime []) refl refl

  choice_by_is : (o : Option Entry) → choice_by (placed s) f o ≡ choice_in (plain.choice_by s f o)
  choice_by_is (Some e) =
      two_tests choice_in (prev_is_eligible s) (earlier e) (longer e)
      (plain.wins_by FirstEligible e.context_ref s.cpu.block.v (named f.ineligible_best)) refl refl
  choice_by_is None =
      through_if choice_in (prev_is_eligible s) {u = plain.nobody_wins HolderAlone s.cpu.block.v (named f.ineligible_best)} refl (nobody_is f.ineligible_best)

  pub choice_is : choice (placed s) f ≡ choice_in (plain.choice s f)
  unfolding choice plain.choice
  choice_is = choice_by_is f.eligible_best

  -- and by the same rule, once it is known whether somebody was stolen
  abbrev rule_in : Bool → plain.Choice → Rule
  rule_in stole w = plain.rule_after stole w.rule

  rule_nobody_is : (stole : Bool) (o : Option Entry) → rule_nobody (placed s) stole o ≡ rule_in stole (plain.nobody s f o)
  rule_nobody_is stole None =
      through_if (rule_in stole) (prev_runnable s) {u = plain.nobody_wins HolderVtime (holder s).vtime []} {w = plain.nobody_wins Idle s.cpu.block.v []} refl refl
  rule_nobody_is stole (Some e) =
      through_if (rule_in stole) (prev_runnable s && leb (holder s).vtime e.vtime) {u = plain.nobody_wins HolderVtime e.vtime (e.context_ref ∷ [])} refl
      (through_if (rule_in stole) (prev_runnable s && leb (holder s).vd e.key.vd) {u = plain.nobody_wins HolderLateDeadline e.vtime (e.context_ref ∷ [])}
      {w = plain.wins_by EntryVtime e.context_ref e.vtime []} refl refl)

  rule_by_is : (stole : Bool) (o : Option Entry) → rule_by (placed s) stole f o ≡ rule_in stole (plain.choice_by s f o)
  rule_by_is stole (Some e) =
      first_test (rule_in stole) (prev_is_eligible s) (earlier e) (longer e)
      (plain.wins_by FirstEligible e.context_ref s.cpu.block.v (named f.ineligible_best)) refl refl
  rule_by_is stole None =
      through_if (rule_in stole) (prev_is_eligible s) {u = plain.nobody_wins HolderAlone s.cpu.block.v (named f.ineligible_best)} refl (rule_nobody_is stole f.ineligible_best)

  pub rule_is : (stole : Bool) → rule_of (placed s) stole f ≡ plain.rule_after stole (plain.choice s f).rule
  unfolding rule_of plain.choice
  rule_is stole = rule_by_is stole f.eligible_best

-- what leaves the queue
without_keys_is : (ks : List Key) (q : List Entry) → Differ entry_before q → by_rank entry_before (plain.without_keys q ks) ≡ without_keys (by_rank entry_before q) ks
without_keys_is [] q d = refl
without_keys_is (k ∷ ks) q d =
    without_keys_is ks (lists.queue_without k q) (leave_out_differs entries_ordered (keyed k) q d)
    ∙ ap (λ (l : List Entry). without_keys l ks) (queue_without_is k q d)

without_keys_differs : (ks : List Key) (q : List Entry) → Differ entry_before q → Differ entry_before (plain.without_keys q ks)
without_keys_differs [] q d = d
without_keys_differs (k ∷ ks) q d = without_keys_differs ks (lists.queue_without k q) (leave_out_differs entries_ordered (keyed k) q d)

cleaned_placed : (f : Scan) (s : State) → Different s.cpu → Places (plain.cleaned_up f s) (cleaned_up f (placed s))
unfolding plain.cleaned_up cleaned_up
cleaned_placed f s d =
    record {
      is =
          rw (
            ← without_keys_is f.contexts_to_remove s.cpu.queue d.queue,
            length_by_rank entries_ordered (plain.without_keys s.cpu.queue f.contexts_to_remove),
          );
      differ = record { queue = without_keys_differs f.contexts_to_remove s.cpu.queue d.queue; timers = d.timers };
    }

v_placed : (v : ℕ) (s : State) → Different s.cpu → Places (on_cpu (cpu_v v) s) (on_cpu (cpu_v v) (placed s))
v_placed v s d = record { is = refl; differ = record { queue = d.queue; timers = d.timers } }

dequeued_placed : (x : ℕ) (s : State) → Different s.cpu → Places (plain.dequeued x s) (dequeued x (placed s))
dequeued_placed x s d =
    let c : Context = at s x in
    if_places c.has_queue_key
    (by_placed (lists.remove_key (queue_key c)) (remove_key (queue_key c)) (λ u h. remove_placed u h (queue_key c)) (put_placed s d x (without_key c))) (places s d)

taken_placed : (w : Option ℕ) (s : State) → Different s.cpu → Places (plain.taken_out w s) (taken_out w (placed s))
taken_placed None s d = places s d
taken_placed (Some x) s d = dequeued_placed x s d

pub chosen_placed : (w : plain.Choice) (f : Scan) (s : State) → Different s.cpu → Places (plain.chosen w f s) (chosen (choice_in w) f (placed s))
unfolding plain.chosen chosen
chosen_placed w f s d =
    by_placed (plain.taken_out w.winner) (taken_out w.winner) (taken_placed w.winner)
    (by_placed (on_cpu (cpu_v w.v)) (on_cpu (cpu_v w.v)) (v_placed w.v) (cleaned_placed f s d))
