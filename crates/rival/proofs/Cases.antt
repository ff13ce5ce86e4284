-- Games on document 01's worked example, by computing the definition. Assumes nothing.
use mathlib.Core.Path.{◌≡◌, refl}
use mathlib.Core.List.{List}
use Prim.Native.Nat.{ℕ}
use Rattle.columns.specs.Common.{every}
use Rattle.numbers.specs.Limits.{max_number}
use Rattle.context.specs.Block.{blocked_as}
use Rattle.percpu.specs.Layout.{counter}
use Rattle.machine.specs.Encode.{encode}
use Rattle.machine.specs.LookUp.{look_up, get_percpu_block}
use Rattle.image_ranges.specs.Singles.{single_words}
use Rattle.image_ranges.specs.Ranges.{within, zero_words, context_most_to, gone_most, wake_marked, key_marked, context_in_range_to, block_most_to, array_least, array_most_to, used, unused, array_in_range_to, block_in_range_to, contexts_in_range_to, blocks_in_range_to}
use Rattle.image_structure.specs.Rises.{rises}
use Rattle.image_structure.specs.Structure.{id_of, is_live, is_new, ids_differ, names_live, entry_ids, keys_rise, timers_rise, is_first_timer, timers_differ, block_structure, structure}
use Rattle.image.specs.Refusal.{in_bounds, ranges_to, ranges, sized_refusal, image_refusal}
use Rattle.admission.specs.Refusals.{is_locked, decision_refusal}
use Rattle.context_ops.specs.Named.{named_context, named_on, named}
use Rattle.context_ops.specs.Operations.{block_with}
use Rattle.context_ops.specs.Reply.{replied, reply_to}
use Rattle.switch_ops.specs.Reply.{decide_on, decide_by}
use Rattle.calls.specs.Call.{check, checked_by}
use Rattle.model.specs.Opened.{opened}
use Rattle.model.specs.Schedule.{switch}
use Rattle.model_cases.specs.Starred.{idler, worker, start, worked}
use Rattle.rounds.specs.Round.{played, go_on_nanos}
use Rattle.rival.specs.declared.Game.{Game}
use Rattle.rival.specs.Game.{first_choice, turn, forces, game, refused, is_game, parties, game_of, rival_by, rival_call}

-- opens what a game is made of
unfoldable opened_game : Unit {0}
unfolding opened idler worker start worked look_up get_percpu_block single_words within zero_words context_most_to gone_most wake_marked key_marked context_in_range_to block_most_to array_least array_most_to used unused array_in_range_to block_in_range_to contexts_in_range_to blocks_in_range_to rises id_of is_live is_new ids_differ names_live entry_ids keys_rise timers_rise is_first_timer timers_differ block_structure structure in_bounds ranges_to ranges sized_refusal image_refusal is_locked decision_refusal replied decide_on decide_by check checked_by played turn forces every counter reply_to named named_on named_context block_with blocked_as first_choice game is_game parties game_of rival_by
opened_game = tt

-- idle, context 0, is in charge, and context 1 waits
abbrev waits : List ℕ
waits = encode worked

-- context 1 is in charge, after a switch
abbrev runs : List ℕ
runs = encode (switch 0 go_on_nanos worked).machine

abbrev forced : ℕ → Game
forced choice = record { refusal = 0; forced = 1; choice = choice }

abbrev lost : Game
lost = record { refusal = 0; forced = 0; choice = 0 }

-- idle is the rival, and cannot keep off who waits, whatever it picks, nor get back in
pub waits_forced : (rival_call waits 0 0 1 0 1 ≡ forced 0) × (rival_call waits 0 0 1 0 2 ≡ forced 0)
unfolding opened_game
waits_forced = (refl, refl)

-- idle cannot stay
pub idle_lost : rival_call waits 0 0 0 1 1 ≡ lost
unfolding opened_game
idle_lost = refl

-- who runs goes on
pub runs_goes_on : rival_call runs 0 go_on_nanos 1 0 1 ≡ forced 1
unfolding opened_game
runs_goes_on = refl

-- at the last time no switch comes after it: the branch is lost
pub last_lost : rival_call waits 0 max_number 1 0 1 ≡ lost
unfolding opened_game
last_lost = refl

-- 5 comes before 14
pub five_first : (rival_call waits 1 0 1 1 0 ≡ refused 5) × ((rival_call waits 0 0 1 2 7 ≡ refused 5) × (rival_call waits 0 0 1 0 7 ≡ refused 14))
unfolding opened_game
five_first = (refl, (refl, refl))
