use Rattle.std.proofs.Common.{◌≡◌, ◌++◌, drop, take, take_while}
use Rattle.key_errors.specs.TextPlaces.{is_in_line}
use Rattle.key_errors.proofs.text_places.line_length.Given as goal

abbrev pub invariant-loop-i : goal.invariant-loop-i
invariant-loop-i l = take_while is_in_line l.text ≡ take l.i l.text ++ take_while is_in_line (drop l.i l.text)
