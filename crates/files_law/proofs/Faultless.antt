-- X12.5, interchange: a whole interchange has none of the faults 1 to 7.
use Rattle.std.proofs.Common.{◌≡◌, ℕ, ◌≤◌, Bool, true, false, cond, not, List, length, map, Option, Some, None, refl, sym, ap, subst, ◌∙◌}
use Rattle.std.proofs.Common.{arith, eq-eqb}
use Rattle.std.specs.Prelude.{◌==◌, decimal, option_map, if◌then◌else◌}
use Rattle.std.specs.List.{list_all}
use Rattle.hub_kinds.specs.Words.{number_of}
use Rattle.hub_kinds.specs.declared.interchange.InterchangeFault.{InterchangeFault}
use Rattle.hub_kinds.specs.declared.interchange.InterchangeFault.TheVariants as fault
use Rattle.x12_bytes.specs.Header.{field_of, header_at}
use Rattle.x12_segs.specs.Words.{SegValue, element_of, elements_of, part_or_empty}
use Rattle.x12_write.specs.Number.{padded_number}
use Rattle.env_index.specs.Words.{Body, GroupEntry, InBody, InterchangeEntry, control_number, counts_groups, fault_by, fault_of}
use Rattle.env_index.specs.Words.{fault_of_headers}
use Rattle.env_index.specs.Words.{fault_with, has_control, has_set_headers, interchange_of, is_group_header, map_body, map_in_body}
use Rattle.env_index.specs.Faults.{is_some_number}
use Rattle.files_law.specs.Whole.{Elements, IsWhole, Whole}
use Rattle.files_law.proofs.Digits.{decimal_read, nine_read}
use Rattle.files_law.proofs.Trees.{AreSound, Clean, clean_before, clean_members, clean_sound, groups_counted, itself, members_of, tree_of}

passes_two : (a b : Bool) (f g : InterchangeFault) → a ≡ true → b ≡ true
    → (if not a then Some f else if not b then Some g else None) ≡ None
passes_two true true f g pa pb = refl
passes_two true false f g pa pb = cc
passes_two false b f g pa pb = cc

passes_three : (a b c : Bool) (f g h : InterchangeFault) (rest : Option InterchangeFault) → a ≡ true → b ≡ true → c ≡ false → rest ≡ None
    → (if not a then Some f else if not b then Some g else if c then Some h else rest) ≡ None
passes_three true true false f g h rest pa pb pc pr = pr
passes_three true true true f g h rest pa pb pc pr = cc
passes_three true false c f g h rest pa pb pc pr = cc
passes_three false b c f g h rest pa pb pc pr = cc

module _ (text : List ℕ) (start : ℕ) (tree : Body SegValue) (w : Whole) (number : ℕ) (is : IsWhole number w) (nine : number ≤ 999999999)
    (same : map_body elements_of tree ≡ tree_of w) (numbered : field_of (header_at text start) 13 ≡ padded_number 9 number) where
  abbrev x : InterchangeEntry
  x = interchange_of text start tree

  members : map (map_in_body elements_of) tree.members ≡ members_of w.ta1s w.groups
  members = ap (λ (b : Body Elements). b.members) same

  sound : AreSound tree.members
  sound = clean_sound tree.members (clean_before tree.members
      (subst (λ (ms : List (InBody Elements)). Clean itself ms) (sym members) (clean_members w.ta1s w.groups is.groups)))

  count : length x.content.groups ≡ length w.groups
  count = groups_counted tree.members w members

  control : control_number x.header ≡ Some number
  control =
      let read = nine_read number nine in
      ap (λ (f : List ℕ). cond (length f == 9) (number_of 9 f) None) numbered
      ∙ ap (λ (b : Bool). cond b (number_of 9 (padded_number 9 number)) None) (eq-eqb (length (padded_number 9 number)) 9 read.0)
      ∙ read.1

  headers : fault_of_headers x ≡ None
  headers =
      passes_two (list_all (λ (g : GroupEntry). is_group_header g.header) x.content.groups) (list_all has_set_headers x.content.groups)
      fault.GroupHeaderInvalid fault.SetHeaderInvalid sound.headers sound.sets

  has_number : (t : SegValue) → elements_of t ≡ w.trailer → has_control t number ≡ true
  has_number t at =
      let element : element_of t 2 ≡ padded_number 9 number = ap (λ (es : Elements). part_or_empty es 2) at ∙ is.numbered in
      ap (λ (f : List ℕ). is_some_number (number_of 9 f) number) element
      ∙ ap (λ (o : Option ℕ). is_some_number o number) (nine_read number nine).1
      ∙ eq-eqb number number refl

  has_count : (t : SegValue) → elements_of t ≡ w.trailer → counts_groups t (length x.content.groups) ≡ true
  has_count t at =
      let n : ℕ = length w.groups in
      let few : n ≤ 99999 = is.few in
      let element : element_of t 1 ≡ decimal n = ap (λ (es : Elements). part_or_empty es 1) at ∙ is.counted in
      ap (λ (m : ℕ). counts_groups t m) count
      ∙ ap (λ (f : List ℕ). is_some_number (number_of 5 f) n) element
      ∙ ap (λ (o : Option ℕ). is_some_number o n) (decimal_read 5 n (omega arith) (omega arith) (omega arith)).1
      ∙ eq-eqb n n refl

  with_trailer : (t : SegValue) → elements_of t ≡ w.trailer → fault_with x t (Some number) ≡ None
  with_trailer t at =
      passes_three (has_control t number) (counts_groups t (length x.content.groups)) x.content.misplaced
      fault.ControlNumbersDiffer fault.GroupCountWrong fault.SegmentMisplaced (fault_of_headers x)
      (has_number t at) (has_count t at) sound.placed headers

  by_trailer : (o : Option SegValue) → option_map elements_of o ≡ Some w.trailer → fault_by x o ≡ None
  by_trailer None at = cc
  by_trailer (Some t) at =
      let there : elements_of t ≡ w.trailer = cc in
      ap (fault_with x t) control ∙ with_trailer t there

  pub faultless : fault_of x ≡ None
  faultless = by_trailer tree.trailer (ap (λ (b : Body Elements). b.trailer) same)
