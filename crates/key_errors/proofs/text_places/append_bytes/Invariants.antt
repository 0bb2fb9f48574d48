use Rattle.std.proofs.Common.{◌≡◌, ◌++◌, drop, flat_map}
use Rattle.key_errors.specs.TextPlaces.{printed_byte}
use Rattle.key_errors.proofs.text_places.append_bytes.Given as goal

abbrev pub invariant-loop-i : goal.invariant-loop-i
invariant-loop-i l =
    l.out.items ++ flat_map printed_byte (drop l.i l.text) ≡ l.initial.out.items ++ flat_map printed_byte l.text
