use Rattle.std.proofs.Common.{◌+◌, ◌<◌, ◌≤◌, ℕ, List, length, get_or, slice_range, arith, sym, ap, ◌∙◌}
use Rattle.x12_segs.specs.Words.{SegValue}
use Rattle.elem_rules.proofs.ForAbove.{part_between, part_past, place_below, place_within}
use Rattle.marked_segments.specs.Marked.{IsPlain}
use Rattle.set_walk.proofs.named.element_at.Goals as goal

below : (ps : List ℕ) (seg : SegValue) → IsPlain ps seg → (k : ℕ) → k < length ps
    → get_or ps k 0 + 1 ≤ get_or ps (k + 1) (length seg.bytes)
below ps seg plain k within = place_below seg.delims.element seg.bytes ps plain.separators k within

inside : (ps : List ℕ) (seg : SegValue) → IsPlain ps seg → (k : ℕ) → k < length ps
    → get_or ps (k + 1) (length seg.bytes) ≤ length seg.bytes
inside ps seg plain k within = place_within seg.delims.element seg.bytes ps plain.separators k within

pub returns-then-k-separators : goal.returns-then-k-separators
returns-then-k-separators c =
    sym (part_past c.args.seg.now.delims.element c.args.seg.now.bytes c.args.separators.now (c.args.k + 1) c.requires.separators
    (omega (arith, c.if-k-separators.true)))

pub overflow_add-from : goal.overflow_add-from
overflow_add-from c =
    let within : c.args.k < length c.args.separators.now = omega (arith, c.if-k-separators.false) in
    let low = below c.args.separators.now c.args.seg.now c.requires c.args.k within in
    let high = inside c.args.separators.now c.args.seg.now c.requires c.args.k within in
    omega (arith, low, high, ap length c.bytes-bytes.ensures)

pub slice_bounds-result-count : goal.slice_bounds-result-count
slice_bounds-result-count c =
    let within : c.args.k < length c.args.separators.now = omega (arith, c.if-k-separators.false) in
    let low = below c.args.separators.now c.args.seg.now c.requires c.args.k within in
    let to = c.offset_or-to.ensures ∙ ap (λ (b : List ℕ). get_or c.args.separators.now (c.args.k + 1) (length b)) c.bytes-bytes.ensures in
    omega (arith, low, to)

pub slice_bounds-result-start : goal.slice_bounds-result-start
slice_bounds-result-start c =
    let within : c.args.k < length c.args.separators.now = omega (arith, c.if-k-separators.false) in
    let low = below c.args.separators.now c.args.seg.now c.requires c.args.k within in
    let high = inside c.args.separators.now c.args.seg.now c.requires c.args.k within in
    let to = c.offset_or-to.ensures ∙ ap (λ (b : List ℕ). get_or c.args.separators.now (c.args.k + 1) (length b)) c.bytes-bytes.ensures in
    omega (arith, low, high, to, ap length c.bytes-bytes.ensures)

pub slice_bounds-result-end-2 : goal.slice_bounds-result-end-2
slice_bounds-result-end-2 c =
    let within : c.args.k < length c.args.separators.now = omega (arith, c.if-k-separators.false) in
    let low = below c.args.separators.now c.args.seg.now c.requires c.args.k within in
    let high = inside c.args.separators.now c.args.seg.now c.requires c.args.k within in
    let to = c.offset_or-to.ensures ∙ ap (λ (b : List ℕ). get_or c.args.separators.now (c.args.k + 1) (length b)) c.bytes-bytes.ensures in
    omega (arith, low, high, to, ap length c.bytes-bytes.ensures)

pub returns : goal.returns
returns c =
    let seg = c.args.seg.now in
    let from = get_or c.args.separators.now c.args.k 0 + 1 in
    let within : c.args.k < length c.args.separators.now = omega (arith, c.if-k-separators.false) in
    ap (λ (bytes : List ℕ). slice_range bytes from c.offset_or-to.result) c.bytes-bytes.ensures
    ∙ ap (slice_range seg.bytes from)
    (c.offset_or-to.ensures ∙ ap (λ (b : List ℕ). get_or c.args.separators.now (c.args.k + 1) (length b)) c.bytes-bytes.ensures)
    ∙ sym (part_between seg.delims.element seg.bytes c.args.separators.now c.requires.separators c.args.k within)
