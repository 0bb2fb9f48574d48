use Rattle.std.proofs.Common.{◌≤◌, ◌<◌, ◌+◌, List, ℕ, length, drop, arith, sym, subst, ap, ◌∙◌}
use Rattle.std.specs.Prelude.{not}
use Rattle.std.specs.List.{list_any}
use Rattle.x12_segs.specs.Words.{elements_of}
use Rattle.elem_rules.specs.Divided.{is_filled}
use Rattle.elem_rules.proofs.Doubtful.{elements_behind, extra_here, filled_by_length}
use Rattle.elem_rules.proofs.Places.{parts_up_to}
use Rattle.elem_rules.proofs.Plain.{IsPlain, neither_found, plain_part}
use Rattle.elem_rules.proofs.exact.has_extra.Goals as goal

pub returns-then-not-is_empty : goal.returns-then-not-is_empty
returns-then-not-is_empty c =
    let seg = c.args.seg.now in
    let s = elements_of seg in
    let k = c.loop-k.k in
    let text = c.element_behind.result.now in
    let behind = elements_behind seg.delims.element seg.bytes c.args.separators.now c.requires.places in
    let within : k < length (drop 1 s) = omega (arith, behind, c.loop-k-test.true) in
    let plain : IsPlain seg.delims text =
    subst (λ (t : List ℕ). IsPlain seg.delims t) (sym c.element_behind.ensures)
    (plain_part seg.delims seg.delims.element seg.bytes (k + 1) (neither_found seg.delims seg.bytes c.requires.plain).0) in
    sym (extra_here seg.delims s c.args.n k text within c.element_behind.ensures
    (filled_by_length seg.delims text c.is_empty.result plain c.is_empty.ensures ∙ ap not c.if-not-is_empty.true) c.loop-k.invariant)

pub returns : goal.returns
returns c =
    let seg = c.args.seg.now in
    let past : length c.args.separators.now ≤ c.loop-k.k = omega (arith, c.loop-k-test.false) in
    sym (c.loop-k.invariant
    ∙ ap (list_any (is_filled seg.delims))
    (parts_up_to seg.delims.element seg.bytes c.args.separators.now c.loop-k.k c.requires.places past))
