use Rattle.std.proofs.Common.{◌<◌, length, append_assoc, arith}
use Rattle.std.proofs.lemmas.Grind.{common_steps}
use Rattle.std.proofs.lemmas.List.Concat.{flat_map-append}
use Rattle.x12_write.specs.Segment.{read}
use Rattle.x12_write.proofs.Trimming.{trimmed-append_codes}
use Rattle.x12_write.proofs.segment.append_coded_segment.Goals as goal

pub returns-clause-text : goal.returns-clause-text
returns-clause-text g c =
    let some : 0 < length c.args.codes.now = grind (arith, common_steps) in
    let kept = trimmed-append_codes g.C.Code.text (read c.args.elements.now) c.args.codes.now some c.requires in
    rw (
      c.in_ok-push.ensures.items,
      c.in_ok-append_codes.ensures.text,
      c.in_ok-append_elements.ensures.text,
      c.in_ok-extend_from_slice.ensures.items,
      kept,
    ) (simp (flat_map-append, append_assoc))
