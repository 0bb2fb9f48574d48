-- X12.6, transaction set header and trailer: what the codes of a set speak of beside its faults. Private.
use Rattle.std.specs.Prelude.{◌≡◌, Bool, List, Option, if◌then◌else◌}
use Rattle.hub_kinds.specs.declared.fault.Fault.{Fault}
use Rattle.hub_kinds.specs.declared.set_codes.SetCode.{SetCode}
use Rattle.guide_tree.specs.Words.{GuideTree}
use Rattle.set_check.specs.Codes.{set_codes_of}
use Rattle.set_walk.specs.declared.ends.Ends.{Ends}
use Rattle.set_check.specs.SetParts.{SetParts, segments_of_set}

pub record IsEnvelopeOf (parts : SetParts) (e : Ends) : Type 0 where
  pub header : e.header ≡ parts.header
  pub segments : e.segments ≡ segments_of_set parts
  pub trailer : e.trailer ≡ parts.trailer

-- the codes that are answered: those found, unless an earlier set of the group has the same ST02
abbrev pub codes_found : Option GuideTree → Ends → List Fault → (codes : List SetCode) → (earlier : Bool) → List SetCode
codes_found guide e faults codes earlier =
    if earlier then set_codes_of faults guide e.header e.segments e.trailer earlier else codes
