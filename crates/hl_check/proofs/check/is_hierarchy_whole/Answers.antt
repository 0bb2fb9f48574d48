use Rattle.std.proofs.Common.{ap, sym, ◌∙◌}
use Rattle.std.proofs.lemmas.List.{length-map}
use Rattle.hl_check.specs.Found.{found_faults}
use Rattle.loop_match.specs.Viewed.{placed_view, placed_views}
use Rattle.hl_check.proofs.NoneFound.{whole_if_none}
use Rattle.hl_check.proofs.check.is_hierarchy_whole.Goals as goal

pub returns : goal.returns
returns c =
    let hls = placed_views c.args.hls.now in
    whole_if_none c.in_ok-faults.faults c.is_empty.result
    c.is_empty.ensures c.args.rule.now c.args.delims hls
    (c.in_ok-faults.ensures ∙ ap (found_faults c.args.rule.now c.args.delims hls) (sym (length-map c.args.hls.now placed_view)))
