-- What small acknowledgments report, read from their bytes.
use Rattle.std.proofs.Common.{◌≡◌, [], ◌∷◌, Some, refl}
use Rattle.std.specs.Prelude.{codes}
use Rattle.x12_bytes.specs.declared.delims.Delims.{Delims}
use Rattle.ack_read.specs.Told.{told_in}
use Rattle.ack_read.specs.declared.told.ElementTold.{ElementTold}
use Rattle.ack_read.specs.declared.told.GroupTold.{GroupTold}
use Rattle.ack_read.specs.declared.told.NoteTold.TheVariants as note
use Rattle.ack_read.specs.declared.told.SegmentTold.{SegmentTold}
use Rattle.ack_read.specs.declared.told.SetTold.{SetTold}
use Rattle.ack_read.specs.declared.told.Ta1Told.{Ta1Told}
use Rattle.ack_read.specs.declared.told.Told.TheVariants as told

marks : Delims
marks = record { element = 42; component = 62; repetition = Some 94; terminator = 126 }

-- a TA1 is reported with its interchange
ta1 : Ta1Told
ta1 = record {
  interchange = 1;
  control = codes "000000007";
  date = codes "260228";
  time = codes "0900";
  code = codes "R";
  note = codes "023";
}

an_interchange_is_told : told_in marks (codes "ISA*00~TA1*000000007*260228*0900*R*023~IEA*0*1~") ≡ told.OfInterchange ta1 ∷ []
unfolding marks ta1
an_interchange_is_told = refl

-- an IK4 is reported with its IK3, by its set; the codes that are empty aren't reported
third : SegmentTold
third = record { id = codes "N3"; position = codes "3"; loop_id = codes "N1"; code = codes "8" }

second_occurrence : ElementTold
second_occurrence = record {
  element = codes "1";
  component = [];
  repetition = codes "2";
  reference = codes "166";
  code = codes "12";
  copy = codes "B";
}

order : SetTold
order = record {
  interchange = 2;
  functional_id = codes "PO";
  group_control = codes "12";
  identifier = codes "850";
  control = codes "0001";
  notes = note.OfSegment third ∷ note.OfElement third second_occurrence ∷ [];
  code = codes "R";
  codes = codes "5" ∷ codes "4" ∷ [];
}

group : GroupTold
group = record {
  interchange = 2;
  functional_id = codes "PO";
  control = codes "12";
  code = codes "R";
  listed = codes "1";
  received = codes "1";
  accepted = codes "0";
  codes = codes "3" ∷ [];
}

a_set_and_its_group_are_told :
    told_in marks (codes "ISA~ISA~ST*999~AK1*PO*12~AK2*850*0001~IK3*N3*3*N1*8~IK4*1>>2*166*12*B~IK5*R*5**4~AK9*R*1*1*0*3~SE*7~")
    ≡ told.OfSet order ∷ told.OfGroup group ∷ []
unfolding marks third second_occurrence order group
a_set_and_its_group_are_told = refl

-- what is reported of one set isn't reported of the next
accepted : SetTold
accepted = record {
  interchange = 0;
  functional_id = [];
  group_control = [];
  identifier = codes "850";
  control = codes "0002";
  notes = [];
  code = codes "A";
  codes = [];
}

the_next_set_has_no_notes : told_in marks (codes "AK2*850*0001~IK3*N3*3*N1*8~AK2*850*0002~IK5*A~") ≡ told.OfSet accepted ∷ []
unfolding marks accepted
the_next_set_has_no_notes = refl

-- a set without an IK5 and a group without an AK9 aren't reported
what_is_cut_off_is_not_told : told_in marks (codes "ISA~AK1*PO*12~AK2*850*0001~IK3*N3*3*N1*8~IK5*A") ≡ []
unfolding marks
what_is_cut_off_is_not_told = refl
