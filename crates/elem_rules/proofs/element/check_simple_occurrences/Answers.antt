use Rattle.std.proofs.Common.{◌≡◌, ◌+◌, [], ◌∷◌, false, ap, ◌∙◌}
use Rattle.guide_tree.specs.declared.element.Component.TheVariants as component
use Rattle.x12_segs.specs.Words.{occurrences}
use Rattle.elem_rules.specs.Divided.{occurrence_in}
use Rattle.elem_rules.specs.Rows.{simple_usage, shown_repetition}
use Rattle.elem_rules.specs.Found.{occurrence_found}
use Rattle.elem_rules.proofs.Steps.{up_to_more, up_to_rest, left_more, text_more, past_parts}
use Rattle.elem_rules.proofs.Quick.{nothing_in_empty}
use Rattle.std.proofs.Common.{ℕ, ◌++◌, sym, get_or, drop}
use Rattle.elem_rules.proofs.element.check_simple_occurrences.Goals as goal

pub loop-n-preserved : goal.loop-n-preserved
loop-n-preserved c =
    let at = c.args.at.now in
    let n = c.loop-n.n in
    let all = occurrences at.delims at.text.now in
    let text : c.in-Some.text.now ≡ occurrence_in at.delims at.text.now (n + 1) =
    text_more all c.loop-n.parts _ n c.loop-n.invariant.left (sym (ap (λ l. get_or l 0 []) c.in-Some.ensures.steps)) in
    let is = ap (λ o. occurrence_found o.delims o.element o.repetition c.args.row.now.reference false
    (component.Simple c.args.row.now ∷ []) o.text.now) c.occurrence.ensures
    ∙ ap (λ t. occurrence_found at.delims at.element
    (shown_repetition (simple_usage c.args.row.now c.args.repeat) (n + 1)) c.args.row.now.reference false
    (component.Simple c.args.row.now ∷ []) t) text in
    record {
      left = left_more all c.loop-n.parts _ n c.loop-n.invariant.left (sym (ap (drop 1) c.in-Some.ensures.steps));
      found = up_to_more
          (λ k. occurrence_found at.delims at.element
          (shown_repetition (simple_usage c.args.row.now c.args.repeat) k) c.args.row.now.reference false
          (component.Simple c.args.row.now ∷ []) (occurrence_in at.delims at.text.now k))
          n c.args.found.now c.loop-n.found _ _ c.loop-n.invariant.found c.in_ok-check_simple.ensures is;
    }

-- where no part is left, the later occurrences are empty
pub returns-in_default : goal.returns-in_default
returns-in_default c =
    let at = c.args.at.now in
    let all = occurrences at.delims at.text.now in
    let usage = (simple_usage c.args.row.now c.args.repeat) in
    let one = (λ (n : ℕ). occurrence_found at.delims at.element
    (shown_repetition usage n) usage.reference usage.is_composite usage.components (occurrence_in at.delims at.text.now n)) in
    let done : drop c.loop-n.n all ≡ [] = sym c.loop-n.invariant.left ∙ c.in_default.ensures.steps.0 in
    c.loop-n.invariant.found
    ∙ ap (λ l. c.args.found.now ++ l) (sym (up_to_rest one c.loop-n.n c.args.repeat c.loop-n.auto.n-end
    (λ k lt. ap (λ t. occurrence_found at.delims at.element
    (shown_repetition usage k) usage.reference usage.is_composite usage.components t) (past_parts all c.loop-n.n k done lt)
    ∙ nothing_in_empty at.delims at.element (shown_repetition usage k) usage.reference usage.is_composite usage.components)))
