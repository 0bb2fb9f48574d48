use Rattle.std.proofs.Common.{◌≡◌, ◌+◌, arith, sym, subst, ◌∙◌}
use Rattle.std.specs.Prelude.{ℕ, List, false}
use Rattle.std.specs.Bool.{OnTrue}
use Rattle.std.specs.List.{list_any}
use Rattle.guide_tree.specs.Words.{element_at}
use Rattle.x12_segs.specs.Words.{elements_of}
use Rattle.elem_rules.specs.Clean.{is_strange}
use Rattle.elem_rules.proofs.Members.{nth_within}
use Rattle.elem_rules.proofs.Plain.{narrow_part}
use Rattle.elem_rules.proofs.Steps.{left_more}
use Rattle.elem_rules.proofs.Looks.{element_next, fit_more, bits_more}
use Rattle.std.proofs.Common.{drop}
use Rattle.elem_rules.proofs.clean.present_if_fit.Goals as goal

pub fits-requires : goal.fits-requires
fits-requires c =
    let seg = c.args.seg.now in
    let text = c.next_part-text.result.now in
    let at : text ≡ element_at (elements_of seg) (c.loop-k.k + 1) =
    element_next (elements_of seg) c.loop-k.parts text c.loop-k.k c.loop-k.invariant.left c.next_part-text.ensures.text in
    subst (λ (t : List ℕ). OnTrue c.args.narrow (list_any is_strange t ≡ false)) (sym at)
    (narrow_part c.args.narrow seg.delims.element seg.bytes (c.loop-k.k + 1) c.requires.narrow)

pub loop-k-preserved : goal.loop-k-preserved
loop-k-preserved c =
    let s = elements_of c.args.seg.now in
    let k = c.loop-k.k in
    let text = c.next_part-text.result.now in
    let at : text ≡ element_at s (k + 1) = element_next s c.loop-k.parts text k c.loop-k.invariant.left c.next_part-text.ensures.text in
    record {
      left = left_more (drop 1 s) c.loop-k.parts _ k c.loop-k.invariant.left c.next_part-text.ensures.rest;
      fit = fit_more c.args.rows.now s k c.index-rows-k.result text (omega arith) c.index-rows-k.is at (sym c.fits.ensures
          ∙ c.if-not-fits.false) c.loop-k.invariant.fit;
      bits = bits_more s k c.loop-k.present text c.is_empty.result c.marked-present.result at c.loop-k.invariant.bits c.is_empty.ensures
          c.marked-present.ensures;
    }

pub returns-in-None-clause-fit : goal.returns-in-None-clause-fit
returns-in-None-clause-fit c k row there =
    let within = nth_within c.args.rows.now k row there in
    c.loop-k.invariant.fit k row (omega (arith, within.1)) there
