-- Counts that have room in the report go on having it, and fit together.
use Rattle.std.proofs.Common.{ℕ, ◌≡◌, ◌+◌, ◌^◌, ◌<◌, ◌++◌, List, [], ◌∷◌, length, ap, ◌∙◌, arith, length-append}
use Rattle.night_report.specs.Adding.{together}
use Rattle.night_report.specs.Lines.{line, spaced}
use Rattle.night_report.specs.Room.{FitsWith, HasRoom, IsOfInterchanges}
use Rattle.night_report.specs.declared.totals.Totals.{Totals}

pub room_goes_on : (a b : Totals) (l m n : ℕ) → HasRoom a l m → HasRoom b m n → HasRoom (together a b) l n
room_goes_on a b l m n x y = record {
  groups = omega (arith, x.groups, y.groups);
  sets = omega (arith, x.sets, y.sets);
  accepted = omega (arith, x.accepted, y.accepted);
  held = omega (arith, x.held, y.held);
}

-- a report has fewer than 2 ^ 63 bytes
pub fits : (a b : Totals) (l m n i j : ℕ) → HasRoom a l m → HasRoom b m n → n < 2 ^ 63 → IsOfInterchanges a i → IsOfInterchanges b j
    → i < 2 ^ 64 → j < 2 ^ 64 → FitsWith a b
fits a b l m n i j x y few ai bj il jl = record {
  interchanges = omega (arith, ai.0, bj.0, il, jl);
  refused = omega (arith, ai.1, bj.1, il, jl);
  groups = omega (arith, x.groups, y.groups, few);
  sets = omega (arith, x.sets, y.sets, few);
  accepted = omega (arith, x.accepted, y.accepted, few);
  held = omega (arith, x.held, y.held, few);
}

pub none_has_room : (n : ℕ) (t : Totals) → t.groups ≡ 0 → t.sets ≡ 0 → t.accepted ≡ 0 → t.held ≡ 0 → HasRoom t n n
none_has_room n t g s a h = record {
  groups = omega (arith, g);
  sets = omega (arith, s);
  accepted = omega (arith, a);
  held = omega (arith, h);
}

-- a line has a byte at least
pub line_is_long : (out new first : List ℕ) (words : List (List ℕ)) → new ≡ out ++ line first words → length out < length new
line_is_long out new first words is =
    let long : length new ≡ length out + length (line first words) = ap length is ∙ length-append out (line first words) in
    let behind : length (line first words) ≡ length (first ++ spaced words) + 1 = length-append (first ++ spaced words) (10 ∷ []) in
    omega (arith, long, behind)
