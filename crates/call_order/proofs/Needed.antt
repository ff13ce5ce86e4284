-- The machines without one of the conditions, by computing.
use mathlib.Core.Path.{◌≡◌, refl, ap}
use mathlib.Core.List.{List, [], ◌∷◌}
use Prim.Native.Nat.{ℕ, ◌+◌}
use native.Mathlib.Omega.{arith}
use lib.ListN.{get_or}
use Rattle.columns.specs.Common.{every}
use Rattle.columns.specs.Blocks.{splice}
use Rattle.percpu.specs.Layout.{no_entry, no_timer, counter}
use Rattle.answer.specs.declared.Answer.{Answer}
use Rattle.machine.specs.Encode.{encode, cpu_place}
use Rattle.machine.specs.LookUp.{get_percpu_block}
use Rattle.image_ranges.specs.Ranges.{within, zero_words, context_most_to, gone_most, wake_marked, key_marked, context_in_range_to, block_most_to, array_least, array_most_to, used, unused, array_in_range_to, block_in_range_to, contexts_in_range_to, blocks_in_range_to}
use Rattle.image_structure.specs.Rises.{rises}
use Rattle.image_structure.specs.Structure.{id_of, is_live, is_new, ids_differ, names_live, entry_ids, keys_rise, timers_rise, is_first_timer, timers_differ, block_structure, structure}
use Rattle.image.specs.Refusal.{in_bounds, ranges_to, ranges, sized_refusal, image_refusal}
use Rattle.admission.specs.Refusals.{is_locked, decision_refusal}
use Rattle.model.specs.Opened.{opened}
use Rattle.model_cases.specs.Starred.{idler, worker, start}
use Rattle.model_local.specs.Names.{is_named}
use Rattle.model_local.specs.Apart.{finds_stealing_turn}
use Rattle.model_local.proofs.Named.{none_in}
use Rattle.context_ops.specs.Reply.{replied}
use Rattle.switch_ops.specs.Reply.{decide_on, decide_by}
use Rattle.calls.specs.Call.{check, checked_by}
use Rattle.call_order.specs.Needed.{RoleByRoleFails, StealingFails, RefusalFails}
use Rattle.call_order.specs.Machines.{listed_elsewhere, stolen_first, counted_out}

-- all that a call on words computes with
unfoldable calls_opened : Unit {0}
unfolding every splice no_entry no_timer counter get_percpu_block within zero_words context_most_to gone_most wake_marked key_marked context_in_range_to block_most_to array_least array_most_to used unused array_in_range_to block_in_range_to contexts_in_range_to blocks_in_range_to rises id_of is_live is_new ids_differ names_live entry_ids keys_rise timers_rise is_first_timer timers_differ block_structure structure in_bounds ranges_to ranges sized_refusal image_refusal is_locked decision_refusal is_named finds_stealing_turn replied decide_on decide_by check checked_by
calls_opened = tt

-- the word of CPU 0 in charge, in an image of three contexts
abbrev in_charge : List ℕ → ℕ
in_charge m = get_or m (cpu_place 3 0 + 2) 0

-- whoever comes first takes the worker: its queue or its list
pub role_by_role_fails : RoleByRoleFails
unfolding opened calls_opened idler worker start listed_elsewhere
role_by_role_fails =
    record {
      m = encode listed_elsewhere;
      one = 0;
      s = 2250000;
      other = 1;
      t = 2250000;
      by_role = refl;
      quiet = refl;
      quiet' = refl;
      accepted = record { first = refl; then_other = refl; other_first = refl; then_one = refl };
      differs = λ h. let z : ◌≡◌ {A = ℕ} 1 0 = ap in_charge h.image in omega arith;
    }

-- the worker is stolen, or runs where it was queued
pub stealing_fails : StealingFails
unfolding opened calls_opened idler worker start stolen_first
stealing_fails =
    record {
      m = encode stolen_first;
      one = 0;
      s = 2250000;
      other = 1;
      t = 2250000;
      apart = none_in (0 ∷ 0 ∷ 0 ∷ []) (2 ∷ 2 ∷ 2 ∷ 1 ∷ []) refl;
      quiet' = refl;
      accepted = record { first = refl; then_other = refl; other_first = refl; then_one = refl };
      differs = λ h. let z : ◌≡◌ {A = ℕ} 1 0 = ap in_charge h.image in omega arith;
    }

-- after the switch of CPU 0 every call is refused
pub refusal_fails : RefusalFails
unfolding opened calls_opened idler worker start counted_out
refusal_fails =
    record {
      m = encode counted_out;
      one = 0;
      s = 2250000;
      other = 1;
      t = 2250000;
      apart = none_in (0 ∷ 0 ∷ 0 ∷ []) (2 ∷ 2 ∷ 2 ∷ 1 ∷ []) refl;
      quiet = refl;
      quiet' = refl;
      first = refl;
      other_first = refl;
      then_one = refl;
      then_other = refl;
      differs = λ h. let z : ◌≡◌ {A = ℕ} 3 0 = ap (λ (a : Answer). a.refusal) h.answer' in omega arith;
    }
