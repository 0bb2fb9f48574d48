use Rattle.std.proofs.Common.{◌≡◌, List, ℕ, take, drop, ap, subst, ◌∙◌}
use Rattle.elem_rules.specs.Marks.{AreBits}
use Rattle.elem_rules.proofs.Masks.{whole_mask, head_mask, take_first, drop_first}
use Rattle.elem_rules.proofs.flat_condition.flat_condition_of.Goals as goal

pub returns-in-Paired : goal.returns-in-Paired
returns-in-Paired c bits few h =
    whole_mask bits few c.args.condition.now.relation c.mask_of.result c.args.condition.now.positions c.requires.distinct
    (subst (λ (ps : List ℕ). AreBits c.mask_of.result ps) c.as_slice-positions.ensures c.mask_of.ensures) c.in-Paired.is h

pub returns-in-Conditional : goal.returns-in-Conditional
returns-in-Conditional c bits few h =
    let given = c.as_slice-positions.result.now in
    let ps = c.args.condition.now.positions in
    let head : c.split_at.result.0.now ≡ take 1 ps =
    c.split_at.ensures.front ∙ ap (λ n. take n given) c.min.ensures ∙ take_first given
    ∙ ap (λ (l : List ℕ). take 1 l) c.as_slice-positions.ensures in
    let others : c.split_at.result.1.now ≡ drop 1 ps =
    c.split_at.ensures.back ∙ ap (λ n. drop n given) c.min.ensures ∙ drop_first given
    ∙ ap (λ (l : List ℕ). drop 1 l) c.as_slice-positions.ensures in
    head_mask bits few c.args.condition.now.relation c.mask_of-in-Conditional.result c.mask_of-in-Conditional-2.result ps
    (subst (λ (l : List ℕ). AreBits c.mask_of-in-Conditional.result l) head c.mask_of-in-Conditional.ensures)
    (subst (λ (l : List ℕ). AreBits c.mask_of-in-Conditional-2.result l) others c.mask_of-in-Conditional-2.ensures) c.in-Conditional.is h
