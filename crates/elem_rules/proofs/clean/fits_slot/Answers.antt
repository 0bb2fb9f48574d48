use Rattle.std.proofs.Common.{◌≡◌, length, drop, sym, ap, subst, ◌∙◌}
use Rattle.std.specs.Prelude.{ℕ, List, Some, IsTrue}
use Rattle.guide_tree.specs.declared.element.Element.{Element}
use Rattle.guide_tree.specs.declared.slot.Condition.{Condition}
use Rattle.elem_rules.specs.Rows.{nth}
use Rattle.std.specs.List.{All}
use Rattle.guide_tree.specs.Words.{element_at}
use Rattle.x12_segs.specs.Words.{elements_of}
use Rattle.elem_rules.specs.Clean.{fits, is_set, holds, bits_to, has_bytes}
use Rattle.elem_rules.proofs.Bounded.{rows_few, rows_bounded}
use Rattle.elem_rules.proofs.Plain.{plain_part}
use Rattle.elem_rules.proofs.Quick.{no_fault}
use Rattle.elem_rules.proofs.Looks.{to_on_true, all_hold}
use Rattle.elem_rules.proofs.clean.fits_slot.Goals as goal

pub present_if_fit-requires : goal.present_if_fit-requires
present_if_fit-requires c =
    record { few = rw c.as_slice.ensures (rows_few c.args.slot.now c.requires.bounded); narrow = c.requires.narrow }

pub returns-in-Some : goal.returns-in-Some
returns-in-Some c =
    let seg = c.args.seg.now in
    let slot = c.args.slot.now in
    let s = elements_of seg in
    let rows = c.as_slice.ensures in
    let bits : c.in-Some.present ≡ bits_to (λ k. has_bytes (element_at s k)) (length slot.elements) = c.in-Some.ensures.bits
    ∙ ap (λ rows. bits_to (λ k. has_bytes (element_at s k)) (length rows)) rows in
    to_on_true c.hold_all.result (λ held. no_fault seg.delims s slot (record {
      bounded = rows_bounded slot c.requires.bounded;
      sound = c.requires.conditions;
      few = rows_few slot c.requires.bounded;
      plain = λ k. plain_part seg.delims seg.delims.element seg.bytes k c.requires.plain;
      fit = subst (λ (rows : List Element). (k : ℕ) (row : Element) → nth rows k ≡ Some row
          → IsTrue (fits row (element_at s k))) rows c.in-Some.ensures.fit;
      no_more = sym (ap (λ rows. drop (length rows) (drop 1 s)) rows) ∙ c.in-Some.ensures.no_more;
      hold = subst (λ n. All (λ x. IsTrue (holds (is_set n) x.relation x.positions)) slot.conditions) bits
          (subst (λ (conditions : List Condition). All (λ x. IsTrue (holds (is_set c.in-Some.present) x.relation x.positions)) conditions)
          c.as_slice-in-Some.ensures
          (all_hold (is_set c.in-Some.present) c.as_slice-in-Some.result.now (sym c.hold_all.ensures ∙ held)));
    }))
