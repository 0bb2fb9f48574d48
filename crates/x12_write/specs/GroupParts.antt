-- X12.6, functional group header (GS) of a group that is sent: its elements before the version, in two parts. Private.
use Rattle.std.specs.Prelude.{ℕ, List, [], ◌∷◌, codes, decimal}
use Rattle.moment.specs.Moment.{date_of, time_of}
use Rattle.x12_write.specs.declared.group.GroupHeader.{GroupHeader}

-- GS01 to GS03
abbrev pub names_of : GroupHeader → List (List ℕ)
names_of g = g.functional_id ∷ g.sender ∷ g.receiver ∷ []

-- GS04 to GS07
abbrev pub stamp_of : (at : List ℕ) → (control : ℕ) → List (List ℕ)
stamp_of at control = date_of at ∷ time_of at ∷ decimal control ∷ codes "X" ∷ []
