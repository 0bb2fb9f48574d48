use Rattle.std.proofs.Common.{◌≡◌, ◌+◌, ◌≤◌, ◌∷◌, slice_range, sym, ap, subst, ◌∙◌, arith}
use Rattle.x12_segs.specs.Words.{seg_at, segs_from}
use Rattle.marked_segments.specs.Walk.{IsRead}
use Rattle.marked_segments.proofs.PartLemmas.{length-part, no_lead, none_left, part_empty, part_found}
use Rattle.marked_segments.proofs.bounds.next_bounds.Goals as goal

pub returns-in_default-clause-next : goal.returns-in_default-clause-next
returns-in_default-clause-next c =
    let text = c.args.stretch.now in
    let t = c.args.delims.terminator in
    let none = c.in_default.ensures.end in
    let further : c.parts.walk.block.at ≤ c.find_end.new.walk.block.at = c.in_default.ensures.further in (
      c.parts.invariant.1 ∙ none_left text t c.parts.walk.block.at none,
      none_left text t c.find_end.new.walk.block.at (λ k low high. none k (omega arith) high),
    )

pub overflow_add-start : goal.overflow_add-start
overflow_add-start c =
    let found = c.in-Some.ensures.end in
    let long = length-part c.args.stretch.now c.parts.walk.block.at c.in-Some.end found.0.low (omega (arith, found.0.high)) in
    record { fits = omega (arith, long, c.lead_of.ensures.bound, found.0.low) }

pub returns-then-start-end-clause-next : goal.returns-then-start-end-clause-next
returns-then-start-end-clause-next c =
    let text = c.args.stretch.now in
    let t = c.args.delims.terminator in
    let found = c.in-Some.ensures.end in
    let part = c.in-Some.ensures.part in (
      c.if-start-end.true,
      found.0.high,
      c.parts.invariant.1
          ∙ part_found text t c.parts.walk.block.at c.in-Some.end c.lead_of.result found.0 found.1
          c.lead_of.ensures.value c.if-start-end.true
          ∙ ap (λ n. seg_at text (c.parts.walk.block.at + c.lead_of.result) c.in-Some.end ∷ segs_from text t n) (sym part.0),
    )

pub returns-then-start-end-clause-plain : goal.returns-then-start-end-clause-plain
returns-then-start-end-clause-plain c plain =
    let part = c.in-Some.ensures.part in
    let none : c.lead_of.result ≡ 0 =
    c.lead_of.ensures.value
    ∙ no_lead c.args.delims (slice_range c.args.stretch.now c.parts.walk.block.at c.in-Some.end) (part.1.none_odd plain) in
    let here : c.parts.walk.block.at ≡ c.parts.walk.block.at + c.lead_of.result = omega arith in
    subst (λ n. IsRead c.args.delims (slice_range c.args.stretch.now n c.in-Some.end) c.find_end.new.walk) here part.1

pub parts-preserved : goal.parts-preserved
parts-preserved c =
    let text = c.args.stretch.now in
    let t = c.args.delims.terminator in
    let found = c.in-Some.ensures.end in
    let part = c.in-Some.ensures.part in (
      c.in-Some.ensures.stands,
      c.parts.invariant.1
          ∙ part_empty text t c.parts.walk.block.at c.in-Some.end c.lead_of.result found.0 found.1
          c.lead_of.ensures.value c.if-start-end.false
          ∙ ap (λ n. segs_from text t n) (sym part.0),
    )
