-- Own: what a seat's fields mean. Private.
use Rattle.std.specs.Prelude.{◌≡◌, ◌≤◌, [], ltb}
use Rattle.claim_desk.specs.declared.desk.Seat.TheInside.{Inside}
use Rattle.claim_desk.specs.Seats.{Holding}
use Rattle.claim_desk.specs.Rule.{IsWhole}

abbrev pub holding : Inside → Holding
holding s = record {
  desk = record { table = s.seat.table_id; n = s.seat.me.0.n; seats = s.seat.me.0.seats };
  got = s.seat.me.0.got;
  weight = s.seat.me.0.weight;
  ended = s.seat.me.0.ended;
}

pub record IsSound (s : Inside) : Type 0 where
  pub no_slot : s.seat.me.1 ≡ []
  pub weighs : (s.weight ≡ s.seat.me.0.weight) × (1 ≤ s.weight) × (s.weight ≤ 64)
  pub done : s.is_done ≡ ltb 0 s.seat.me.0.ended
  pub whole : IsWhole s.seat.me.0
