use Rattle.std.proofs.Common.{◌≡◌, ◌≤◌, ◌<◌, ◌^◌, ℕ, Bool, List, [], length, ap, arith, sym, subst, ◌∙◌}
use Rattle.std.specs.Prelude.{Some, IsTrue}
use Rattle.std.specs.List.{All, list_all}
use Rattle.guide_tree.specs.declared.element.Element.{Element}
use Rattle.guide_tree.specs.Words.{element_at}
use Rattle.x12_segs.specs.Words.{elements_of}
use Rattle.elem_rules.specs.Rows.{nth}
use Rattle.elem_rules.specs.Clean.{fits, is_set, holds, bits_to, has_bytes}
use Rattle.elem_rules.specs.Flat.{holds_by}
use Rattle.elem_rules.proofs.Behind.{bits_rest}
use Rattle.elem_rules.proofs.Bounded.{rows_few, rows_bounded}
use Rattle.elem_rules.proofs.FlatSlots.{fit_each}
use Rattle.elem_rules.proofs.Looks.{to_on_true}
use Rattle.elem_rules.proofs.Places.{part_past, parts_up_to}
use Rattle.elem_rules.proofs.Plain.{neither_found, plain_part}
use Rattle.elem_rules.proofs.Quick.{no_fault}
use Rattle.elem_rules.proofs.flat_slot.is_clean_flat.Goals as goal

pub present_if_sure-requires-clause-bounded : goal.present_if_sure-requires-clause-bounded
present_if_sure-requires-clause-bounded c = rw c.as_slice-rows.ensures (rows_few c.args.slot.now c.requires.bounded)

pub present_if_sure-requires-clause-many : goal.present_if_sure-requires-clause-many
present_if_sure-requires-clause-many c =
    rw (c.as_slice-rows.ensures, c.as_slice-known.ensures.value) c.requires.flat.many

pub present_if_sure-requires-clause-each : goal.present_if_sure-requires-clause-each
present_if_sure-requires-clause-each c =
    rw (c.as_slice-rows.ensures, c.as_slice-known.ensures.value, c.as_slice-numbers.ensures.value) c.requires.flat.each

pub present_if_sure-requires-clause-narrow : goal.present_if_sure-requires-clause-narrow
present_if_sure-requires-clause-narrow c = (neither_found c.args.seg.now.delims c.args.seg.now.bytes c.requires.plain).1

pub returns : goal.returns
returns c =
    let seg = c.args.seg.now in
    let slot = c.args.slot.now in
    let s = elements_of seg in
    let n = length c.args.separators.now in
    let rows = c.as_slice-rows.ensures in
    let bits = c.in-Some.present in
    let few : n ≤ length slot.elements = subst (λ (rows : List Element). n ≤ length rows) rows c.if-separators-rows.false in
    let small : n < 64 = omega (arith, few, rows_few slot c.requires.bounded) in
    let present : ℕ → Bool = λ k. has_bytes (element_at s k) in
    let past : (k : ℕ) → n < k → element_at s k ≡ [] =
    λ k lt. part_past seg.delims.element seg.bytes c.args.separators.now k c.requires.places lt in
    let all : bits ≡ bits_to present (length slot.elements) =
    c.in-Some.ensures.bits ∙ sym (bits_rest present n (length slot.elements) few (λ k lt. ap has_bytes (past k lt))) in
    let filled : (k : ℕ) (row : Element) → k ≤ n → nth slot.elements k ≡ Some row → IsTrue (has_bytes (element_at s k))
    → IsTrue (fits row (element_at s k)) =
    subst (λ (rows : List Element). (k : ℕ) (row : Element) → k ≤ n → nth rows k ≡ Some row → IsTrue (has_bytes (element_at s k))
    → IsTrue (fits row (element_at s k))) rows c.in-Some.ensures.fit in
    let below : bits < 2 ^ 64 = omega arith in
    to_on_true c.all_hold.result (λ held. no_fault seg.delims s slot (record {
      bounded = rows_bounded slot c.requires.bounded;
      sound = c.requires.conditions;
      few = rows_few slot c.requires.bounded;
      plain = λ k. plain_part seg.delims seg.delims.element seg.bytes k (neither_found seg.delims seg.bytes c.requires.plain).0;
      fit = fit_each slot.elements s n c.args.flat.now.must bits small filled past c.in-Some.ensures.bits c.if-present-flat.false
          c.requires.flat.needed;
      no_more = parts_up_to seg.delims.element seg.bytes c.args.separators.now (length slot.elements) c.requires.places few;
      hold = subst (λ m. All (λ x. IsTrue (holds (is_set m) x.relation x.positions)) slot.conditions) all
          (c.requires.flat.held bits below
          (sym (c.all_hold.ensures ∙ ap (list_all (λ x. holds_by x.relation x.first x.rest bits)) c.as_slice.ensures.value) ∙ held));
    }))
