-- Which interchanges are answered with a TA1, worked: these and no others, each with its note.
use Rattle.std.specs.Prelude.{ℕ, ◌≡◌, refl, false, List, [], ◌∷◌, Some, None, codes}
use Rattle.x12_bytes.specs.declared.delims.Delims.{Delims}
use Rattle.x12_segs.specs.Words.{SegValue}
use Rattle.hub_kinds.specs.declared.interchange.InterchangeFault.TheVariants as fault
use Rattle.env_index.specs.Words.{InterchangeEntry, GroupEntry}
use Rattle.answered_sets.specs.Answered.{ta1_note}

abbrev stars : Delims
stars = record { element = 42; component = 62; repetition = Some 94; terminator = 126 }

abbrev gs : SegValue
gs = record { start = 106; bytes = codes "GS*FA*ACME*HUB*20260228*0900*5*X*005010X231"; delims = stars }

-- a group of acknowledgments
abbrev group : GroupEntry
group = record { header = gs; sets = []; trailer = None }

abbrev interchange : (header : List ℕ) → List GroupEntry → InterchangeEntry
interchange header groups = record {
  header = header;
  start = 0;
  end = 200;
  content = record { groups = groups; ta1s = 0; misplaced = false; trailer = None };
}

-- ISA14 is 1; it is 0
abbrev asking : List ℕ
asking = codes "ISA*00*          *00*          *01*ACME           *ZZ*HUB            *260228*0900*^*00501*000000007*1*P*>~"

abbrev silent : List ℕ
silent = codes "ISA*00*          *00*          *01*ACME           *ZZ*HUB            *260228*0900*^*00501*000000007*0*P*>~"

asked_for : ta1_note (Some 0) None (interchange asking (group ∷ [])) ≡ Some (codes "000")
asked_for = refl

not_asked_for : ta1_note (Some 0) None (interchange silent (group ∷ [])) ≡ None
not_asked_for = refl

without_a_group : ta1_note (Some 0) None (interchange asking []) ≡ None
without_a_group = refl

refused : ta1_note (Some 0) (Some fault.GroupCountWrong) (interchange silent []) ≡ Some (codes "021")
refused = refl

of_an_unknown_sender : ta1_note None (Some fault.SenderUnknown) (interchange asking (group ∷ [])) ≡ None
of_an_unknown_sender = refl

-- ISA09 and ISA10 that aren't digits, and ISA13
date_without_digits :
    ta1_note (Some 0) (Some fault.TrailerMissing)
    (interchange (codes "ISA*00*          *00*          *01*ACME           *ZZ*HUB            *26022A*0900*^*00501*000000007*1*P*>~") [])
    ≡ None
date_without_digits = refl

time_without_digits :
    ta1_note (Some 0) (Some fault.TrailerMissing)
    (interchange (codes "ISA*00*          *00*          *01*ACME           *ZZ*HUB            *260228*09:0*^*00501*000000007*1*P*>~") [])
    ≡ None
time_without_digits = refl

number_without_digits :
    ta1_note (Some 0) (Some fault.ControlNumberInvalid)
    (interchange (codes "ISA*00*          *00*          *01*ACME           *ZZ*HUB            *260228*0900*^*00501*00000007 *1*P*>~") [])
    ≡ None
number_without_digits = refl
