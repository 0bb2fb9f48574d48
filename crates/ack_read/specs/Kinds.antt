-- X12.5 and the 999 guide (005010X231): what a segment's id says of what it reports in an acknowledgment.
use Rattle.std.specs.Prelude.{ℕ, List, codes, if◌then◌else◌}
use Rattle.std.specs.Str.{bytes_eq}
use Rattle.ack_read.specs.declared.kind.AckKind.{AckKind}
use Rattle.ack_read.specs.declared.kind.AckKind.TheVariants as kind

abbrev pub ack_kind : (id : List ℕ) → AckKind
ack_kind id =
    if bytes_eq id (codes "AK2") then kind.SetHeader
    else if bytes_eq id (codes "IK5") then kind.SetResponse
    else if bytes_eq id (codes "TA1") then kind.Ta1
    else if bytes_eq id (codes "IK3") then kind.SegmentNote
    else if bytes_eq id (codes "IK4") then kind.ElementNote
    else if bytes_eq id (codes "AK1") then kind.GroupHeader
    else if bytes_eq id (codes "AK9") then kind.GroupResponse
    else if bytes_eq id (codes "ISA") then kind.InterchangeHeader
    else kind.Other
