use Rattle.std.proofs.Common.{◌≡◌, ◌≤◌, take}
use Rattle.key_errors.specs.TextPlaces.{last_line_length}
use Rattle.key_errors.proofs.text_places.last_line_length.Given as goal

abbrev pub invariant-loop-i : goal.invariant-loop-i
invariant-loop-i l = record {
  value : l.length ≡ last_line_length (take l.i l.text);
  bound : l.length ≤ l.i;
}
