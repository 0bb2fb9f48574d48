use Rattle.std.proofs.Common.{◌∙◌, ap, subst}
use Rattle.set_check.specs.Checked.{Checked, IsChecked}
use Rattle.set_check.proofs.Clean.{clean_by}
use Rattle.set_check.proofs.checked.CheckedSet.is_clean.Goals as goal

pub returns : goal.returns
returns c =
    clean_by c.args.self.now (subst IsChecked c.self.view_is c.self.invariant.0) c.self.inside.faults c.found_codes.result.now
    c.is_without_fault.result (ap (λ (k : Checked). k.faults) c.self.view_is)
    (c.found_codes.ensures ∙ ap (λ (k : Checked). k.codes) c.self.view_is) c.is_without_fault.ensures.none
