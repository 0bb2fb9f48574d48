-- own: which byte of a set keeps it from a receiver, and in which segment it is first.
use Rattle.std.specs.Prelude.{ℕ, ◌+◌, Bool, not, ◌&&◌, List, [], ◌∷◌, ◌++◌, Option, Some, None, find, flat_map, map, take, drop}
use Rattle.x12_bytes.specs.declared.delims.Delims.{Delims}
use Rattle.night_definition.specs.Segments.{Elements}
use Rattle.night_definition.specs.Acknowledgments.{is_delimiter}
use Rattle.night_definition.specs.Deliveries.{Sent}

-- a byte, and the number of its segment in the set, from 1 for ST
abbrev pub Hindrance : Type 0
Hindrance = ℕ × ℕ

-- the first byte that is a delimiter of the receiver and not one of the sender
abbrev pub byte_in : (from to : Delims) → Elements → Option ℕ
byte_in from to elements = find (λ b. is_delimiter to b && not (is_delimiter from b)) (flat_map (λ e. e) elements)

abbrev pub here_or : (segment : ℕ) → Option ℕ → Option Hindrance → Option Hindrance
here_or segment (Some b) later = Some (b, segment)
here_or segment None later = later

-- in segments, of which the first has this number
abbrev pub first_in : (from to : Delims) → (segment : ℕ) → List Elements → Option Hindrance
first_in from to segment [] = None
first_in from to segment (s ∷ ss) = here_or segment (byte_in from to s) (first_in from to (segment + 1) ss)

-- in a set, apart from ST02 and SE
abbrev pub hindrance_to : (to : Delims) → Sent → Option Hindrance
hindrance_to to s =
    let st = s.answer.set.header.elements in
    first_in s.delims to 1 ((take 2 st ++ drop 3 st) ∷ map (λ x. x.elements) s.answer.set.inner)
