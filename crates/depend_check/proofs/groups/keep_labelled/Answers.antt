use Rattle.std.proofs.Common.{ap, ◌∙◌, rules}
use Rattle.std.specs.Prelude.{is_some}
use Rattle.std.proofs.lemmas.List.Elements.{filter_from_retain}
use Rattle.loop_match.specs.Viewed.{placed_view, placed_views}
use Rattle.depend_check.specs.Uses.{is_labelled}
use Rattle.depend_check.proofs.Lists.{filter_view}
use Rattle.depend_check.proofs.groups.keep_labelled.Goals as goal

pub returns : goal.returns
returns c =
    ap placed_views (filter_from_retain _ (λ x. is_some x.slot.now.label) (λ p x b q k. search rules) _ _ _ c.retain.ensures.filtered)
    ∙ filter_view is_labelled placed_view c.args.placed.now.items
