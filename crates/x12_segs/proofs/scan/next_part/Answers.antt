use Rattle.std.proofs.Common.{◌≡◌, ◌+◌, ◌≤◌, List, [], ◌∷◌, ◌++◌, ℕ, length, slice_range, sym, ap, ◌∙◌, arith}
use Rattle.std.specs.List.{prefix_len}
use Rattle.std.proofs.lemmas.List.{take_rest}
use Rattle.x12_bytes.specs.Bytes.{is_line_end}
use Rattle.x12_segs.specs.Segs.{Seg, part_at, seg_at, segs_from, without_line_ends}
use Rattle.x12_segs.proofs.SegLemmas.{IsLeftFrom-empty, cut_found, part_at-some, rest_from-found, rest_fits, rest_from-none}
use Rattle.x12_segs.proofs.SegLemmas.{segs_from-found, segs_from-none, without_line_ends-slice}
use Rattle.x12_segs.proofs.scan.next_part.Goals as goal

pub returns-then-start-end-clause-next : goal.returns-then-start-end-clause-next
returns-then-start-end-clause-next c =
    let text : List ℕ = c.args.text.now in
    let at : ℕ = c.loop-len.at in
    let len : ℕ = c.in-Some.len in
    let part : List ℕ = slice_range text at (at + len) in
    let cut = cut_found text c.args.terminator at len c.loop-len.invariant.within c.in-Some.ensures in
    let lead : c.lead.result ≡ prefix_len is_line_end part = c.lead.ensures.value in
    let width : length part ≡ len = cut.width in
    let some : part_at at part ≡ without_line_ends at part ∷ [] = part_at-some at part (omega (arith, c.if-start-end.true)) in
    let seg : without_line_ends at part
    ≡ seg_at text (at + c.lead.result) (at + len) = without_line_ends-slice text at (at + len) c.lead.result lead
    (omega (arith, c.if-start-end.true)) in
    let shape : part_at at part ≡ seg_at text (at + c.lead.result) (at + len) ∷ [] = some ∙ ap (λ (s : Seg). s ∷ []) seg in (
      c.loop-len.invariant.segs ∙ segs_from-found text c.args.terminator at len cut
          ∙ ap (λ (s : List Seg). s ++ segs_from text c.args.terminator (at + len + 1)) shape,
      c.loop-len.invariant.rest ∙ rest_from-found text c.args.terminator at len cut,
    )

pub loop-len-preserved : goal.loop-len-preserved
loop-len-preserved c =
    let text : List ℕ = c.args.text.now in
    let at : ℕ = c.loop-len.at in
    let len : ℕ = c.in-Some.len in
    let part : List ℕ = slice_range text at (at + len) in
    let cut = cut_found text c.args.terminator at len c.loop-len.invariant.within c.in-Some.ensures in
    let lead : c.lead.result ≡ prefix_len is_line_end part = c.lead.ensures.value in
    let width : length part ≡ len = cut.width in
    IsLeftFrom-empty text c.args.terminator c.args.from at len c.loop-len.invariant cut (omega (arith, c.if-start-end.false))

pub returns-clause-next : goal.returns-clause-next
returns-clause-next c =
    let text : List ℕ = c.args.text.now in
    let at : ℕ = c.loop-len.at in
    let rest : List ℕ = slice_range text at (length text) in
    let bound : c.lead-2.result ≤ length rest = c.lead-2.ensures.bound in
    let seg = without_line_ends-slice text at (length text) c.lead-2.result c.lead-2.ensures.value
    (rest_fits text at c.lead-2.result c.loop-len.invariant.within bound) in (
      c.loop-len.invariant.segs ∙ segs_from-none text c.args.terminator at c.in_default.ensures,
      c.loop-len.invariant.rest ∙ rest_from-none text c.args.terminator at c.in_default.ensures
          ∙ ap (without_line_ends at) (sym (take_rest text at)) ∙ seg,
    )
