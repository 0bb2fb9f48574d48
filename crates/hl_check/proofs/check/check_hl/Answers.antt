use Rattle.std.proofs.Common.{sym, subst}
use Rattle.hub_kinds.specs.Words.{AreRising}
use Rattle.hl_check.proofs.Keyed.{none_rising}
use Rattle.hl_check.proofs.check.check_hl.Goals as goal

pub returns-in-None-clause-rising : goal.returns-in-None-clause-rising
returns-in-None-clause-rising c = subst AreRising (sym c.new.ensures) none_rising

pub returns-in-None-first-clause-rising : goal.returns-in-None-first-clause-rising
returns-in-None-first-clause-rising c = subst AreRising (sym c.new-in-None-first.ensures) none_rising
