-- The notes of a TA1, worked: each fault's, and which have none.
use Rattle.std.specs.Prelude.{◌≡◌, refl, Some, None, codes}
use Rattle.hub_kinds.specs.declared.interchange.InterchangeFault.TheVariants as fault
use Rattle.hub_kinds.specs.Interchange.{acknowledgment_code, note_text}

no_error : note_text None ≡ Some (codes "000")
no_error = refl

trailer_missing : note_text (Some fault.TrailerMissing) ≡ Some (codes "023")
trailer_missing = refl

number_invalid : note_text (Some fault.ControlNumberInvalid) ≡ None
number_invalid = refl

numbers_differ : note_text (Some fault.ControlNumbersDiffer) ≡ Some (codes "001")
numbers_differ = refl

count_wrong : note_text (Some fault.GroupCountWrong) ≡ Some (codes "021")
count_wrong = refl

misplaced : note_text (Some fault.SegmentMisplaced) ≡ Some (codes "022")
misplaced = refl

bad_group : note_text (Some fault.GroupHeaderInvalid) ≡ Some (codes "024")
bad_group = refl

bad_set : note_text (Some fault.SetHeaderInvalid) ≡ Some (codes "024")
bad_set = refl

sender_unknown : note_text (Some fault.SenderUnknown) ≡ None
sender_unknown = refl

duplicate : note_text (Some fault.Duplicate) ≡ Some (codes "025")
duplicate = refl

accepted : acknowledgment_code (codes "000") ≡ codes "A"
accepted = refl

rejected : acknowledgment_code (codes "001") ≡ codes "R"
rejected = refl
