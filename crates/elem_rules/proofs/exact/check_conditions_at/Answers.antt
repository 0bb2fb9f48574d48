use Rattle.std.proofs.Common.{◌≡◌, ◌<◌, ◌^◌, arith, ℕ, Bool, List, length, take, drop, sym, subst, ap, ◌∙◌}
use Rattle.std.specs.Prelude.{IsTrue}
use Rattle.std.specs.List.{All, Contains, list_all}
use mathlib.Core.Logic.{◌⊎◌, inl, inr}
use Rattle.guide_tree.specs.declared.element.Element.{Element}
use Rattle.guide_tree.specs.Words.{element_at}
use Rattle.hub_kinds.specs.declared.fault.ElemFault.{ElemFault}
use Rattle.x12_segs.specs.Words.{elements_of}
use Rattle.elem_rules.specs.Clean.{is_set, holds, bits_to, has_bytes}
use Rattle.elem_rules.specs.Flat.{holds_by}
use Rattle.elem_rules.specs.Found.{read}
use Rattle.elem_rules.proofs.Bounded.{rows_few}
use Rattle.elem_rules.proofs.Doubtful.{conditions_same}
use Rattle.elem_rules.proofs.Looks.{texts_few}
use Rattle.elem_rules.proofs.Marks.{on_ok, rows_listed}
use Rattle.elem_rules.proofs.Members.{no_member}
use Rattle.elem_rules.proofs.Plain.{neither_found, plain_part}
use Rattle.elem_rules.proofs.Quick.{conditions_clean}
use Rattle.elem_rules.proofs.exact.check_conditions_at.Goals as goal

pub present_to-present-requires-clause-few : goal.present_to-present-requires-clause-few
present_to-present-requires-clause-few c = rw c.as_slice-rows.ensures (rows_few c.args.slot.now c.requires.bounded)

-- where all hold, nothing is found
pub returns-then-all_hold : goal.returns-then-all_hold
returns-then-all_hold c f =
    let seg = c.args.seg.now in
    let slot = c.args.slot.now in
    let s = elements_of seg in
    let present : ℕ → Bool = λ k. has_bytes (element_at s k) in
    let bits = c.present_to-present.result in
    let below : bits < 2 ^ 64 = omega arith in
    let are : bits ≡ bits_to present (length slot.elements) =
    c.present_to-present.ensures ∙ ap (λ (rows : List Element). bits_to present (length rows)) c.as_slice-rows.ensures in
    let hold = subst (λ (n : ℕ). All (λ x. IsTrue (holds (is_set n) x.relation x.positions)) slot.conditions) are
    (c.requires.flat.held bits below
    (sym (c.all_hold.ensures ∙ ap (list_all (λ x. holds_by x.relation x.first x.rest bits)) c.as_slice.ensures.value)
    ∙ c.if-all_hold.true)) in
    let none = conditions_clean seg.delims s slot (rows_few slot c.requires.bounded)
    (λ k. plain_part seg.delims seg.delims.element seg.bytes k (neither_found seg.delims seg.bytes c.requires.plain).0)
    c.requires.conditions hold in (
      λ h. inl h,
      λ h. elim h [ inl e ↦ e | inr e ↦ absurd (no_member f (subst (λ (l : List ElemFault). Contains l f) none e)) ],
    )

pub check_conditions-requires-clause-texts : goal.check_conditions-requires-clause-texts
check_conditions-requires-clause-texts c =
    texts_few c.as_slice-2.result.now c.in_ok-texts.texts.items c.args.slot.now.elements c.as_slice-rows.result.now
    (elements_of c.args.seg.now)
    (rows_few c.args.slot.now c.requires.bounded) c.as_slice-rows.ensures c.as_slice-2.ensures.value c.in_ok-texts.ensures

pub check_conditions-requires-clause-rows : goal.check_conditions-requires-clause-rows
check_conditions-requires-clause-rows c = rw c.as_slice-rows.ensures (rows_few c.args.slot.now c.requires.bounded)

pub check_conditions-requires-clause-positions : goal.check_conditions-requires-clause-positions
check_conditions-requires-clause-positions c =
    rows_listed c.args.slot.now c.as_slice-rows.result.now c.as_slice-3.result.now c.as_slice-rows.ensures
    c.as_slice-3.ensures c.requires.conditions

pub returns : goal.returns
returns c =
    let seg = c.args.seg.now in
    let s = elements_of seg in
    let same = conditions_same seg.delims c.delims.result s c.args.slot.now c.as_slice-rows.result.now (read c.as_slice-2.result.now)
    c.as_slice-3.result.now c.delims.ensures c.as_slice-rows.ensures c.as_slice-3.ensures
    (ap read c.as_slice-2.ensures.value ∙ c.in_ok-texts.ensures ∙ ap (λ rows. take (length rows) (drop 1 s)) c.as_slice-rows.ensures) in
    on_ok c.check_conditions.result (λ members f.
    subst (λ (l : List ElemFault). (Contains c.check_conditions.new.found f → Contains c.args.found.now f ⊎ Contains l f)
    × (Contains c.args.found.now f ⊎ Contains l f → Contains c.check_conditions.new.found f)) same (members f))
    c.check_conditions.ensures
