use Rattle.guide_law.proofs.Placed.{placed_one_way}
use Rattle.guide_law.proofs.Conforming.{derived_is_placed, placed_is_derived, derived_has_placing}
use Rattle.guide_law.proofs.Gaps.{no_gaps}
use Rattle.guide_law.proofs.law.placing_is_grammar.Goals as goal

pub returns-clause-derived : goal.returns-clause-derived
returns-clause-derived c = derived_is_placed

pub returns-clause-placed : goal.returns-clause-placed
returns-clause-placed c = placed_is_derived

pub returns-clause-one : goal.returns-clause-one
returns-clause-one c = placed_one_way

pub returns-clause-there : goal.returns-clause-there
returns-clause-there c = derived_has_placing

pub returns-clause-counted : goal.returns-clause-counted
returns-clause-counted c ts body given pl parent child u v l h = no_gaps ts body given parent child u v pl l h
