use Rattle.std.proofs.Common.{Option, Bor, IfOk, sym, subst}
use Rattle.std.specs.Option.{option_copied}
use Rattle.hub_kinds.specs.Words.{AreRising, key_of}
use Rattle.hub_kinds.proofs.ForAbove.{none_rises}
use Rattle.guide_tree.specs.declared.guide.Guide.{Guide}
use Rattle.set_check.specs.Checked.{guide_tree_of}
use Rattle.set_check.specs.SetFaults.{AreSetFaults}
use Rattle.set_check.specs.SetParts.{parts_of}
use Rattle.set_check.proofs.check.set_faults.Goals as goal

pub returns-in-None-clause-rising : goal.returns-in-None-clause-rising
returns-in-None-clause-rising c = subst AreRising (sym c.new.ensures) (none_rises key_of)

pub returns-in-Some-clause-exact : goal.returns-in-Some-clause-exact
returns-in-Some-clause-exact c =
    subst (λ (o : Option (Bor Guide)). IfOk c.body_faults.result (λ v. AreSetFaults (guide_tree_of (option_copied o))
    (parts_of c.args.set.now.delims c.args.set.now.closed c.args.segs.now) v)) (sym c.in-Some.is) c.body_faults.ensures.exact
