use Rattle.std.proofs.Common.{cond, sym, ◌∙◌, rules}
use Rattle.std.specs.Str.{bytes_eq}
use Rattle.std.proofs.lemmas.Bool.{cond-true, cond-false}
use Rattle.x12_segs.specs.Words.{elements_of}
use Rattle.hub_kinds.specs.declared.codes.SegmentCode.TheVariants as ik304
use Rattle.hub_kinds.specs.Words.{contains_text}
use Rattle.guide_tree.specs.Words.{any_slot, segment_id, fits, guide_of}
use Rattle.guide_fast.proofs.strays.Strays.code.Goals as goal

pub returns-else-fits_somewhere : goal.returns-else-fits_somewhere
returns-else-fits_somewhere c =
    let g = guide_of c.args.self.now in
    let s = elements_of c.args.seg.now in
    sym (cond-true (any_slot (λ slot. bytes_eq slot.id (segment_id s)) g.nodes)
    (cond (any_slot (λ slot. fits slot s) g.nodes) ik304.OutOfSequence ik304.UnexpectedSegment)
    (cond (contains_text g.head.dictionary (segment_id s)) ik304.NotInSet ik304.UnrecognizedSegment) (search rules)
    ∙ cond-false (any_slot (λ slot. fits slot s) g.nodes) ik304.OutOfSequence ik304.UnexpectedSegment (search rules))
