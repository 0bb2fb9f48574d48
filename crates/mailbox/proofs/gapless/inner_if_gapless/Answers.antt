use Rattle.std.proofs.Common.{drop, sym, ◌∙◌}
use Rattle.answered_sets.specs.Judged.{delims_in, segments_in}
use Rattle.mailbox.specs.Deliveries.{inner_count}
use Rattle.mailbox.proofs.WithoutGap.{found_whole}
use Rattle.mailbox.proofs.gapless.inner_if_gapless.Goals as goal

pub returns-then-count_of-count : goal.returns-then-count_of-count
returns-then-count_of-count c =
    let p = c.args.placed.now in
    found_whole (delims_in p) c.args.terminator c.stretch_behind_header-stretch.result.now c.inner_end.result c.args.count (inner_count p)
    (drop 1 (segments_in p)) c.requires.terminator c.requires.count c.stretch_behind_header-stretch.ensures
    (sym c.is_gapless.ensures ∙ c.if-is_gapless.true) (sym c.count_of.ensures ∙ c.if-count_of-count.true)
