-- `switch_to::direct::direct_switch_by` meets its contract. Assumes nothing.
use mathlib.Core.Logic.{inl, inr}
use native.Mathlib.Omega.{arith}
use Rattle.switch_to.proofs.Directly.{switchable, by_can_switch, by_skip, by_blocked}
use Rattle.switch_to.proofs.direct.direct_switch_by.Goals as goal

pub update_runnable-requires : goal.update_runnable-requires
update_runnable-requires c = omega (arith, c.word.ensures, c.args.cpu.present, c.requires.image.fits.bounds.1)

pub direct_switch-requires : goal.direct_switch-requires
direct_switch-requires c = let g = switchable _ _ _ _ _ _ _ c.requires.ranged c.requires.bounded.0 c.load-q.ensures c.update_runnable.ensures c.in-CanSwitch.is in record { image = c.requires.image; bounded = c.requires.bounded; context_fits = g.0; context_below = g.1; ranged = c.requires.ranged }

pub returns-in-CanSwitch : goal.returns-in-CanSwitch
returns-in-CanSwitch c = by_can_switch _ _ _ _ _ _ c.word.ensures c.load-q.ensures c.update_runnable.ensures _ c.in-CanSwitch.is c.direct_switch.ensures

pub returns-in-Skip : goal.returns-in-Skip
returns-in-Skip c =
    elim c.in-Skip.is [
      | inl e ↦ by_skip _ _ _ _ _ _ c.word.ensures c.load-q.ensures c.update_runnable.ensures e c.requires.image
      | inr e ↦ by_blocked _ _ _ _ _ _ c.word.ensures c.load-q.ensures c.update_runnable.ensures e c.requires.image
    ]
