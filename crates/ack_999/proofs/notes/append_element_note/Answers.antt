use Rattle.std.proofs.Common.{◌≡◌, ◌++◌, List, ℕ, [], ◌∷◌, sym, ap, ◌∙◌}
use Rattle.std.specs.Prelude.{codes}
use Rattle.std.proofs.lemmas.Result.{on_ok_weaker}
use Rattle.hub_kinds.specs.Words.{element_code_text}
use Rattle.ack_999.specs.Copy.{copy_text}
use Rattle.ack_999.specs.Faults.{position_text}
use Rattle.x12_write.specs.Segment.{end_text}
use Rattle.ack_999.proofs.Noting.{segment_text-code, appended}
use Rattle.ack_999.proofs.notes.append_element_note.Goals as goal

pub returns-clause-text : goal.returns-clause-text
returns-clause-text c =
    let d = c.args.delims.now in
    let e = c.args.elem.now in
    let out : List ℕ = c.args.out.now.items in
    let position : List ℕ = position_text d.component e in
    let last : List (List ℕ) = e.reference ∷ element_code_text e.code ∷ copy_text d e.copy ∷ [] in
    let same : c.bytes.result.now ∷ c.as_bytes.result.now ∷ c.copied.result.now ∷ [] ≡ last =
    cc (c.bytes.ensures, c.as_bytes.ensures.value, c.code_text.ensures, c.copied.ensures, c.bytes-2.ensures) in
    on_ok_weaker c.append_last_three.result
    (λ written.
    appended out c.extend_from_slice.new.self.items c.push.new.self.items c.append_position.new.out.items c.append_last_three.new.out.items
    (codes "IK4") position (end_text d last) d.element
    c.in_ok-extend_from_slice.ensures.items c.in_ok-push.ensures.items c.in_ok-append_position.ensures.text
    (written ∙ ap (λ (l : List (List ℕ)). c.append_position.new.out.items ++ end_text d l) same)
    ∙ ap (λ (t : List ℕ). out ++ t) (sym (segment_text-code d (codes "IK4") position e.reference (copy_text d e.copy) e.code)))
    c.append_last_three.ensures.text
