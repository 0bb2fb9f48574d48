-- Own: seats as the definitions see them. Private.
use Rattle.depend_check.specs.declared.seat.GuideSeat.{GuideSeat}
use Rattle.depend_check.specs.Dependencies.{Seat}

abbrev pub seat_view : GuideSeat → Seat
seat_view s = record { slot = s.slot.now; loop_id = s.loop_id.now }
