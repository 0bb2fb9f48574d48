-- Own: a desk for where a name is wanted and none is picked. Private.
use Rattle.std.specs.Prelude.{[]}
use Rattle.claim_desk.specs.Seats.{DeskName}

abbrev pub no_desk : DeskName
no_desk = record {
  table = record { words = 0; slots = 0; views_name = 0; atom = 0; block = 0; offset = 0; slot_names = [] };
  n = 0;
  seats = 0;
}
