use Rattle.std.proofs.Common.{◌∙◌, ap}
use Rattle.std.specs.List.{list_all}
use Rattle.guide_widening.specs.Changes.{is_widening}
use Rattle.diff_report.proofs.Comparing.{compared_by}
use Rattle.diff_report.proofs.compare.compared.Goals as goal

pub returns-clause-compared : goal.returns-clause-compared
returns-clause-compared c =
    compared_by c.args.old.now c.args.new.now c.in_ok-found.found.items c.in_ok-text.text.items c.status_of-status.result
    c.are_widenings.result c.wider_guides_take_each_set.ensures c.rows-old.ensures.accepted c.rows-new.ensures.accepted
    c.in_ok-found.ensures.found c.in_ok-found.ensures.wider
    (c.are_widenings.ensures ∙ ap (list_all is_widening) c.as_slice-2.ensures.value) c.status_of-status.ensures.zero
    (c.in_ok-text.ensures (c.as_slice.ensures.value ∙ c.in_ok-found.ensures.found))
