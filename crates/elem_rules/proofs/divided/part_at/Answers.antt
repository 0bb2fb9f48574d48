use Rattle.std.proofs.Common.{refl, ap, ◌∙◌}
use Rattle.std.proofs.lemmas.Iterator.Consumers.{nth_from_yields_List, YieldsList-from_first}
use Rattle.x12_segs.proofs.ForAbove.{now_or_empty}
use Rattle.elem_rules.proofs.divided.part_at.Goals as goal

pub returns : goal.returns
returns c =
    let given = nth_from_yields_List _ _ c.args.n c.nth.ensures.ran (YieldsList-from_first (λ x. x.now) (λ rest. rest) c.args.parts refl) in
    ap (λ x. x.now) c.unwrap_or.ensures ∙ now_or_empty c.nth.result _ c.args.parts c.args.n refl given
