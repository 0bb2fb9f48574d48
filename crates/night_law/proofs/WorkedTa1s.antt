-- The TA1s of small acknowledgments, read from their bytes.
use Rattle.std.proofs.Common.{◌≡◌, ℕ, List, [], ◌∷◌, Some, None, refl}
use Rattle.std.specs.Prelude.{codes}
use Rattle.x12_bytes.specs.declared.delims.Delims.{Delims}
use Rattle.night_law.specs.Ta1sRead.{ta1s_by, ta1s_in}

marks : Delims
marks = record { element = 42; component = 62; repetition = Some 94; terminator = 126 }

-- one that is accepted, and one that is refused, each before its IEA
two_are_read :
    ta1s_in marks (codes "TA1*000000007*260228*0900*A*000~GS*FA~IEA*1*000000001~TA1*000000008*260228*0915*R*023~IEA*0*000000002~")
    ≡ record { control = codes "000000007"; date = codes "260228"; time = codes "0900"; code = codes "A"; note = codes "000" }
    ∷ record { control = codes "000000008"; date = codes "260228"; time = codes "0915"; code = codes "R"; note = codes "023" } ∷ []
unfolding marks
two_are_read = refl

-- another segment is none, nor is one whose element is TA1
others_are_passed : ta1s_in marks (codes "AK1*PO*12~AK2*TA1*0001~IK5*A~AK9*A*1*1*1~") ≡ []
unfolding marks
others_are_passed = refl

-- what an interchange is answered with
abbrev header : List ℕ
header = codes "ISA*00*          *00*          *01*ACME           *ZZ*HUB            *260228*0900*^*00501*000000007*0*P*>~"

one_answered : ta1s_by header (Some (codes "025"))
    ≡ record { control = codes "000000007"; date = codes "260228"; time = codes "0900"; code = codes "R"; note = codes "025" } ∷ []
one_answered = refl

one_silent : ta1s_by header None ≡ []
one_silent = refl
