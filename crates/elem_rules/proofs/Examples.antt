-- The definitions computed on worked examples: rows of an order, and segments that break them.
use Rattle.std.proofs.Common.{◌≡◌, ℕ, List, [], ◌∷◌, true, false, refl, arith}
use Rattle.std.specs.Prelude.{Option, Some, None, codes}
use mathlib.Core.Logic.{inl, inr}
use Rattle.guide_tree.specs.declared.element.ElementType.{ElementType}
use Rattle.guide_tree.specs.declared.element.ElementType.TheVariants as data_type
use Rattle.guide_tree.specs.declared.element.Requirement.{Requirement}
use Rattle.guide_tree.specs.declared.element.Requirement.TheVariants.{Mandatory, Optional}
use Rattle.guide_tree.specs.declared.element.CodeList.{CodeList}
use Rattle.guide_tree.specs.declared.element.SimpleRow.{SimpleRow}
use Rattle.guide_tree.specs.declared.element.Element.TheVariants as element
use Rattle.guide_tree.specs.declared.slot.Slot.{Slot}
use Rattle.guide_tree.specs.declared.slot.Relation.TheVariants as relation
use Rattle.guide_tree.specs.Words.{Segment}
use Rattle.hub_kinds.specs.declared.codes.ElementCode.TheVariants as ik403
use Rattle.x12_bytes.specs.declared.delims.Delims.{Delims}
use Rattle.elem_rules.specs.ElementFaults.{IsElementFault, wrong_at, copy_in}
use Rattle.elem_rules.specs.Values.{value_fault}
use Rattle.moment.specs.Calendar.{is_date, is_time}

delims : Delims
delims = record { element = 42; component = 62; repetition = Some 94; terminator = 126 }

row : List ℕ → Requirement → ElementType → ℕ → ℕ → Option CodeList → SimpleRow
row reference requirement data_type least most listed =
    record {
      reference = reference;
      requirement = requirement;
      data_type = data_type;
      min = least;
      max = most;
      wide = false;
      codes =
          listed;
    }

number_fault : value_fault (row [] Mandatory data_type.Decimal 1 5 None) (codes "-0012.5") ≡ None
unfolding row
number_fault = refl

sign_alone : value_fault (row [] Mandatory (data_type.Number 0) 1 5 None) (codes "-") ≡ Some ik403.InvalidCharacter
unfolding row
sign_alone = refl

long_before_unlisted : value_fault (row [] Mandatory data_type.Identifier 1 2 (Some (record { used = codes "A" ∷ []; unused = None })))
    (codes "ABC") ≡ Some ik403.TooLong
unfolding row
long_before_unlisted = refl

leap_days : (is_date (codes "20240229") ≡ true) × (is_date (codes "20260229") ≡ false) × (is_date (codes "240229") ≡ true)
    × (is_date (codes "00000101") ≡ false)
leap_days = (refl, refl, refl, refl)

times : (is_time (codes "2359") ≡ true) × (is_time (codes "2460") ≡ false) × (is_time (codes "235960") ≡ false)
    × (is_time (codes "23595999") ≡ true) × (is_time (codes "12345") ≡ false)
times = (refl, refl, refl, refl, refl)

-- what each code copies, at component 2 of repetition 2
abbrev parts : List ℕ
parts = codes "AB>CD^EF>GH"

nothing_copied : (copy_in delims parts 2 2 ik403.RequiredMissing ≡ []) × (copy_in delims parts 2 2 ik403.ConditionalMissing ≡ [])
    × (copy_in delims parts 2 2 ik403.DependentMissing ≡ [])
nothing_copied = (refl, refl, refl)

element_copied : (copy_in delims parts 2 2 ik403.TooManyElements ≡ parts) × (copy_in delims parts 2 2 ik403.ExclusionViolated ≡ parts)
    × (copy_in delims parts 2 2 ik403.PatternFailure ≡ parts) × (copy_in delims parts 2 2 ik403.DependentNotUsedPresent ≡ parts)
    × (copy_in delims parts 0 0 ik403.NotUsedPresent ≡ parts)
element_copied = (refl, refl, refl, refl, refl)

occurrence_copied : copy_in delims parts 2 2 ik403.TooManyRepetitions ≡ codes "EF>GH"
unfolding delims
occurrence_copied = refl

component_copied : (copy_in delims parts 2 2 ik403.TooShort ≡ codes "GH") × (copy_in delims parts 2 2 ik403.TooLong ≡ codes "GH")
    × (copy_in delims parts 2 2 ik403.InvalidCharacter ≡ codes "GH") × (copy_in delims parts 2 2 ik403.InvalidCode ≡ codes "GH")
    × (copy_in delims parts 2 2 ik403.InvalidDate ≡ codes "GH") × (copy_in delims parts 2 2 ik403.InvalidTime ≡ codes "GH")
    × (copy_in delims parts 2 2 ik403.TooManyComponents ≡ codes "GH") × (copy_in delims parts 2 2 ik403.CodeNotUsed ≡ codes "GH")
    × (copy_in delims parts 2 2 ik403.NotUsedPresent ≡ codes "GH")
unfolding delims
component_copied = (refl, refl, refl, refl, refl, refl, refl, refl, refl)

abbrev listed : Option CodeList
listed = Some (record { used = codes "00" ∷ codes "05" ∷ []; unused = Some (codes "01" ∷ codes "04" ∷ []) })

abbrev beg_row : SimpleRow
beg_row = record {
  reference = codes "353";
  requirement = Mandatory;
  data_type = data_type.Identifier;
  min = 2;
  max = 2;
  wide =
      false;
  codes = listed;
}

abbrev any_row : SimpleRow
any_row = record {
  reference = codes "92";
  requirement = Optional;
  data_type = data_type.Text;
  min = 1;
  max = 30;
  wide = false;
  codes =
      None;
}

abbrev day_row : SimpleRow
day_row = record {
  reference = codes "373";
  requirement = Mandatory;
  data_type = data_type.Date;
  min = 8;
  max = 8;
  wide = false;
  codes =
      None;
}

abbrev slot : Slot
slot = record {
  number = 1;
  id = codes "BEG";
  label = None;
  min = 1;
  max = 1;
  picks = [];
  elements = element.Simple beg_row 1 ∷ element.Simple any_row 1 ∷ element.Simple any_row 1 ∷ element.Simple any_row 1 ∷ element.Simple
      day_row 1 ∷ [];
  conditions = record { relation = relation.Paired; positions = 3 ∷ 4 ∷ [] } ∷ [];
}

abbrev beg : Segment
beg = codes "BEG" ∷ codes "01" ∷ codes "SA" ∷ codes "P1" ∷ codes "" ∷ codes "20260229" ∷ []

known_but_not_used : IsElementFault delims beg slot
    (record { element = 1; component = 0; repetition = 0; code = ik403.CodeNotUsed; reference = codes "353"; copy = codes "01" })
unfolding delims
known_but_not_used = inr (inl (record {
  position = 1;
  row = element.Simple beg_row 1;
  there = refl;
  w = wrong_at 0 0 ik403.CodeNotUsed;
  wrong = inr (inr (inr (record {
    n = 1;
    from = omega arith;
    to = omega arith;
    filled = refl;
    few = refl;
    m = 1;
    row = _;
    there =
        refl;
    code = ik403.CodeNotUsed;
    fault = refl;
    is = refl;
  })));
  is = refl;
}))

no_such_day : IsElementFault delims beg slot
    (record { element = 5; component = 0; repetition = 0; code = ik403.InvalidDate; reference = codes "373"; copy = codes "20260229" })
unfolding delims
no_such_day = inr (inl (record {
  position = 5;
  row = element.Simple day_row 1;
  there = refl;
  w = wrong_at 0 0 ik403.InvalidDate;
  wrong = inr (inr (inr (record {
    n = 1;
    from = omega arith;
    to = omega arith;
    filled = refl;
    few = refl;
    m = 1;
    row = _;
    there =
        refl;
    code = ik403.InvalidDate;
    fault = refl;
    is = refl;
  })));
  is = refl;
}))

pair_is_broken : IsElementFault delims beg slot
    (record { element = 4; component = 0; repetition = 0; code = ik403.ConditionalMissing; reference = codes "92"; copy = [] })
unfolding delims
pair_is_broken = inr (inr (record {
  condition = _;
  listed = (0, omega arith, refl);
  position = 4;
  broken = (0, omega arith, refl);
  is =
      refl;
}))
