-- X12.6, transaction set (own): how much room a number of nodes leaves.
use Rattle.std.specs.Prelude.{ℕ, ◌-◌, nat_le, Option, Some, None, if◌then◌else◌}

-- what is left of the room, if there is enough
abbrev pub room_left : ℕ → ℕ → Option ℕ
room_left room taken = if nat_le taken room then Some (room - taken) else None
