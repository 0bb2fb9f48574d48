use Rattle.std.proofs.Common.{ap, ◌∙◌, rules}
use Rattle.std.proofs.lemmas.List.Elements.{filter_from_retain}
use Rattle.x12_segs.specs.Words.{elements_of}
use Rattle.loop_match.specs.Viewed.{placed_view, placed_views}
use Rattle.hl_check.specs.Hierarchy.{is_hl}
use Rattle.hl_check.proofs.Viewing.{filter_view}
use Rattle.hl_check.proofs.hls.keep_hls.Goals as goal

pub returns : goal.returns
returns c =
    ap placed_views (filter_from_retain _ (λ x. is_hl (elements_of x.seg.now)) (λ p x b q k. search rules) _ _ _ c.retain.ensures.filtered)
    ∙ filter_view (λ h. is_hl h.segment) placed_view c.args.placed.now.items
