use Rattle.std.proofs.Common.{◌-◌, refl, ap, ◌∙◌}
use Rattle.std.proofs.lemmas.Iterator.Consumers.{nth_from_yields_List, YieldsList-from_first}
use Rattle.x12_segs.proofs.ForAbove.{now_or_empty}
use Rattle.night_report.specs.Clean.{words_of}
use Rattle.night_report.proofs.clean.word.Goals as goal

pub returns : goal.returns
returns c =
    let list = words_of c.args.line.now in
    let given = nth_from_yields_List _ _ (c.args.n - 1) c.nth.ensures.ran
    (YieldsList-from_first (λ x. x.now) (λ rest. rest) list c.parts_of.ensures) in
    ap (λ x. x.now) c.unwrap_or.ensures ∙ now_or_empty c.nth.result _ list (c.args.n - 1) refl given
