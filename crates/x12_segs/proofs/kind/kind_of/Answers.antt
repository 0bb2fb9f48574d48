use Rattle.std.proofs.Common.{◌≡◌, ℕ, List, false, sym, ap, ◌∙◌, arith}
use Rattle.x12_bytes.specs.declared.delims.Delims.{Delims}
use Rattle.x12_segs.specs.Parts.{parts}
use Rattle.x12_segs.specs.View.{part_or_empty}
use Rattle.std.proofs.lemmas.Grind.{common_steps}
use Rattle.x12_segs.specs.Kinds.{kind_by_id, kind_of}
use Rattle.x12_segs.specs.Letters.{begins_as_control}
use Rattle.x12_segs.proofs.KindLemmas.{other_segment}
use Rattle.x12_segs.proofs.kind.kind_of.Goals as goal

pub returns-then-not-begins_as_control : goal.returns-then-not-begins_as_control
returns-then-not-begins_as_control c =
    let no : c.begins_as_control.result ≡ false = grind (arith, common_steps) in
    sym (other_segment c.args.segment.now (ap begins_as_control (sym c.bytes.ensures) ∙ sym c.begins_as_control.ensures ∙ no))

pub returns : goal.returns
unfolding kind_of
returns c =
    c.kind_by_id.ensures ∙ c.short_id.ensures
    ∙ ap (λ (d : Delims). kind_by_id (part_or_empty (parts d.element c.bytes-2.result.now) 0)) c.delims.ensures
    ∙ ap (λ (bytes : List ℕ). kind_by_id (part_or_empty (parts c.args.segment.now.delims.element bytes) 0)) c.bytes-2.ensures
