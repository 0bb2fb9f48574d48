use Rattle.std.proofs.Common.{◌∙◌, ap, subst}
use Rattle.set_check.specs.Checked.{Checked, IsChecked, guide_in}
use Rattle.set_check.proofs.Verdicts.{verdict_is, meets_by}
use Rattle.set_check.proofs.checked.CheckedSet.verdict.Goals as goal

pub returns-clause-value : goal.returns-clause-value
returns-clause-value c =
    verdict_is c.args.self.now (subst IsChecked c.self.view_is c.self.invariant.0) _ c.self.inside.faults c.found_codes.result.now
    c.args.earlier c.verdict_by.result (ap guide_in c.self.view_is)
    (ap (λ (k : Checked). k.faults) c.self.view_is)
    (c.found_codes.ensures ∙ ap (λ (k : Checked). k.codes) c.self.view_is) c.verdict_by.ensures

pub returns-clause-meets : goal.returns-clause-meets
returns-clause-meets c =
    meets_by c.args.self.now (subst IsChecked c.self.view_is c.self.invariant.0) c.args.earlier c.verdict_by.result
    (returns-clause-value c)
