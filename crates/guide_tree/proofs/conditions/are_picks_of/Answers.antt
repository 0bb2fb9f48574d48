use Rattle.std.proofs.Common.{ℕ, List, Bool, ◌<◌, length, map, ap, sym, subst, ◌∙◌}
use Rattle.std.specs.Prelude.{◌&&◌}
use Rattle.std.proofs.lemmas.List.{length-map}
use Rattle.std.specs.List.{list_all}
use Rattle.guide_tree.specs.declared.element.Element.{Element}
use Rattle.guide_tree.specs.Conditions.{is_pick_of, pick_position}
use Rattle.guide_tree.proofs.Few.{not_distinct, picks_have_rows}
use Rattle.guide_tree.proofs.conditions.are_picks_of.Goals as goal

pub returns-then-picks-as_slice : goal.returns-then-picks-as_slice
returns-then-picks-as_slice c =
    let slot = c.args.slot.now in
    let picks = c.args.picks.now in
    let many = subst (λ (rows : List Element). length rows < length picks) c.as_slice.ensures c.if-picks-as_slice.true in
    let twice = not_distinct slot (map pick_position picks)
    (picks_have_rows slot picks (sym c.are_each_picks_of.ensures ∙ c.if-not-are_each_picks_of.false))
    (subst (λ (n : ℕ). length slot.elements < n) (sym (length-map picks pick_position)) many) in
    sym (ap (λ (b : Bool). b && list_all (is_pick_of slot) picks) twice)
