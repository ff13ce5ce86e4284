use Rattle.image.proofs.Admitted.{wrong_length, out_of_range, blocks_in, broken, not_refused}
use mathlib.Core.Path.{sym, ◌∙◌}
use native.Mathlib.Omega.{arith}
use Rattle.image.proofs.check_sized.Goals as goal

pub returns-then-m-cpu_place : goal.returns-then-m-cpu_place
returns-then-m-cpu_place c = wrong_length _ _ _ _ c.index-c.ensures c.index-n.ensures (λ z. c.if-m-cpu_place.true (z ∙ sym c.cpu_place.ensures))

pub returns-then-not-in_ranges : goal.returns-then-not-in_ranges
returns-then-not-in_ranges c = out_of_range _ _ _ _ c.index-c.ensures c.index-n.ensures (c.if-m-cpu_place.false ∙ c.cpu_place.ensures) (sym c.in_ranges.ensures ∙ c.if-not-in_ranges.true)

pub structure-requires : goal.structure-requires
structure-requires c = record { m_len = (omega arith, omega arith, omega arith, omega arith); m_value = blocks_in _ _ _ _ c.index-c.ensures c.index-n.ensures (sym c.in_ranges.ensures ∙ c.if-not-in_ranges.false) }

pub returns-then-not-structure : goal.returns-then-not-structure
returns-then-not-structure c = broken _ _ _ _ c.index-c.ensures c.index-n.ensures (c.if-m-cpu_place.false ∙ c.cpu_place.ensures) (sym c.in_ranges.ensures ∙ c.if-not-in_ranges.false) (sym c.structure.ensures ∙ c.if-not-structure.true)

pub returns : goal.returns
returns c = not_refused _ _ _ _ c.index-c.ensures c.index-n.ensures (c.if-m-cpu_place.false ∙ c.cpu_place.ensures) (sym c.in_ranges.ensures ∙ c.if-not-in_ranges.false) (sym c.structure.ensures ∙ c.if-not-structure.false)
