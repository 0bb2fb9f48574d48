-- What a TA1 repeats of an interchange is digits, and so is its note.
use Rattle.std.proofs.Common.{◌≡◌, ℕ, Bool, true, false, ◌&&◌, ◌||◌, List, Option, Some, None, refl, subst}
use Rattle.std.specs.Prelude.{if◌then◌else◌, is_some, IfSome}
use Rattle.std.proofs.lemmas.Bool.{and_parts}
use Rattle.x12_bytes.specs.Header.{field_of}
use Rattle.moment.specs.Calendar.{is_digits}
use Rattle.hub_kinds.specs.Words.{note_text}
use Rattle.hub_kinds.specs.declared.interchange.InterchangeFault.{InterchangeFault}
use Rattle.hub_kinds.specs.declared.interchange.InterchangeFault.TheVariants as fault
use Rattle.env_index.specs.Words.{InterchangeEntry}
use Rattle.answered_sets.specs.Answered.{is_answered, is_repeatable, asks_for_ta1, ta1_note}

pub record IsRepeated (x : InterchangeEntry) (note : List ℕ) : Type 0 where
  pub control : is_digits (field_of x.header 13) ≡ true
  pub day : is_digits (field_of x.header 9) ≡ true
  pub time : is_digits (field_of x.header 10) ≡ true
  pub said : is_digits note ≡ true

note_digits : (f : Option InterchangeFault) → IfSome (note_text f) (λ n. is_digits n ≡ true)
note_digits None = refl
note_digits (Some fault.TrailerMissing) = refl
note_digits (Some fault.ControlNumberInvalid) = tt
note_digits (Some fault.ControlNumbersDiffer) = refl
note_digits (Some fault.GroupCountWrong) = refl
note_digits (Some fault.SegmentMisplaced) = refl
note_digits (Some fault.GroupHeaderInvalid) = refl
note_digits (Some fault.SetHeaderInvalid) = refl
note_digits (Some fault.SenderUnknown) = tt
note_digits (Some fault.Duplicate) = refl

taken : (b : Bool) (o : Option (List ℕ)) (note : List ℕ) → (if b then o else None) ≡ Some note → (b ≡ true) × (o ≡ Some note)
taken true o note is = (refl, is)
taken false o note is = cc

pub repeated : (sender : Option ℕ) (f : Option InterchangeFault) (x : InterchangeEntry) (note : List ℕ) → ta1_note sender f x ≡ Some note
    → IsRepeated x note
repeated sender f x note is =
    let both = taken (is_answered sender f x) (note_text f) note is in
    let front = and_parts (is_some sender && is_repeatable x.header) (is_some f || asks_for_ta1 x) both.0 in
    let header = and_parts (is_some sender) (is_repeatable x.header) front.0 in
    let three = and_parts (is_digits (field_of x.header 13) && is_digits (field_of x.header 9)) (is_digits (field_of x.header 10))
    header.1 in
    let two = and_parts (is_digits (field_of x.header 13)) (is_digits (field_of x.header 9)) three.0 in
    record {
      control = two.0;
      day = two.1;
      time = three.1;
      said = subst (λ (o : Option (List ℕ)). IfSome o (λ n. is_digits n ≡ true)) both.1 (note_digits f);
    }
