-- The responses of a small acknowledgment, read from its bytes.
use Rattle.std.proofs.Common.{◌≡◌, [], ◌∷◌, Some, refl}
use Rattle.std.specs.Prelude.{codes}
use Rattle.x12_bytes.specs.declared.delims.Delims.{Delims}
use Rattle.night_law.specs.Responses.{responses_in}

marks : Delims
marks = record { element = 42; component = 62; repetition = Some 94; terminator = 126 }

-- two sets, the first with an IK3 between its AK2 and its IK5
two_are_read : responses_in marks (codes "ST*999*0001~AK1*PO*12~AK2*850*0001~IK3*BEG*2**8~IK5*R*5~AK2*855*0002~IK5*A~AK9*P*2*2*1~")
    ≡ record { identifier = codes "850"; control = codes "0001"; code = codes "R" }
    ∷ record { identifier = codes "855"; control = codes "0002"; code = codes "A" } ∷ []
unfolding marks
two_are_read = refl

-- an IK3 or an AK9 is no response
others_are_passed : responses_in marks (codes "AK1*PO*12~IK3*BEG*2**8~AK9*R*1*1*0~") ≡ []
unfolding marks
others_are_passed = refl
