use Rattle.std.proofs.Common.{◌≡◌, ◌≤◌, List, ℕ, [], length, get_or, refl, ap, sym, subst, ◌∙◌}
use Rattle.std.proofs.lemmas.Iterator.Consumers.{nth_from_yields_List, YieldsList-from_first}
use Rattle.x12_segs.specs.Parts.{parts_by}
use Rattle.x12_segs.proofs.PartLemmas.{length-part, now_or_empty}
use Rattle.x12_segs.proofs.parts.part_or_empty.Goals as goal

found : (c : goal.After-unwrap_or) → c.unwrap_or.result.now ≡ get_or (parts_by c.args.separator c.args.text.now) c.args.n []
found c =
    let list = parts_by c.args.separator c.args.text.now in
    let given = nth_from_yields_List _ _ c.args.n c.nth.ensures.ran
    (YieldsList-from_first (λ x. x.now) (λ rest. rest) list c.new.ensures.value) in
    ap (λ x. x.now) c.unwrap_or.ensures ∙ now_or_empty c.nth.result _ list c.args.n refl given

pub returns-clause-value : goal.returns-clause-value
returns-clause-value c = found c

pub returns-clause-len : goal.returns-clause-len
returns-clause-len c =
    subst (λ (part : List ℕ). length part ≤ length c.args.text.now) (sym (found c)) (length-part c.args.separator c.args.text.now c.args.n)
