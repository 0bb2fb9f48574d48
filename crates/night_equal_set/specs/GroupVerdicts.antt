-- A group with these codes, whose sets have these verdicts, has one verdict.
use Rattle.std.specs.Prelude.{◌≡◌, List}
use Rattle.hub_kinds.specs.declared.set_codes.GroupCode.{GroupCode}
use Rattle.hub_kinds.specs.declared.set_codes.Verdict.{Verdict}
use Rattle.ack_999.specs.Group as old
use Rattle.night_definition.specs.Answers as room

abbrev pub GroupVerdictsAreOne : Type 0
GroupVerdictsAreOne = (codes : List GroupCode) (verdicts : List Verdict) → room.group_verdict codes verdicts
    ≡ old.group_verdict_of codes verdicts
