use Rattle.std.proofs.Common.{sym, ◌∙◌, ap}
use Rattle.env_index.specs.Words.{InterchangeEntry}
use Rattle.answered_sets.proofs.InSpans.{moved_span, set_in_span, span_at}
use Rattle.answered_sets.proofs.placed.PlacedSet.behind_header.Goals as goal

pub segments_in-segments-requires : goal.segments_in-segments-requires
segments_in-segments-requires c =
    let x = c.self.inside.interchange.now in
    moved_span c.text.ensures
    (span_at x c.self.inside.group c.self.inside.set c.args.self.now c.header.result.now c.delims.result c.args.set.now c.span-span.result
    (sym c.self.view_is) (c.header.ensures ∙ ap (λ (i : InterchangeEntry). i.header) c.interchange-interchange.ensures.value)
    c.delims.ensures.value c.requires c.span-span.ensures)
    (set_in_span x.text x.interchange c.self.inside.group c.self.inside.set c.interchange-interchange.ensures.spans
    c.self.invariant.0 c.self.invariant.1)
