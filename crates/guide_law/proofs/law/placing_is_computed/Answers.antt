use Rattle.guide_law.proofs.Placed.{triggers, placed_one_way}
use Rattle.guide_law.proofs.Computed.{exact, only_placing}
use Rattle.guide_law.proofs.Cleaning.{pass_is_grammar}
use Rattle.guide_law.proofs.Faulty.{members}
use Rattle.guide_law.proofs.Keyed.{keyed}
use Rattle.guide_law.proofs.law.placing_is_computed.Goals as goal

pub returns-clause-nexts : goal.returns-clause-nexts
returns-clause-nexts c g w = exact g.nodes (triggers g w)

pub returns-clause-only : goal.returns-clause-only
returns-clause-only c g w = only_placing g (triggers g w) (placed_one_way g w)

pub returns-clause-pass : goal.returns-clause-pass
returns-clause-pass c = pass_is_grammar

pub returns-clause-members : goal.returns-clause-members
returns-clause-members c = members

pub returns-clause-keyed : goal.returns-clause-keyed
returns-clause-keyed c = keyed
