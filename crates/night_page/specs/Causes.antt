-- What there is to do at a hub after a night (own): each cause once, and the rows that it has.
use Rattle.std.specs.Prelude.{ℕ, ◌&&◌, Bool, false, List, [], ◌∷◌, Option, Some, None, codes, if◌then◌else◌}
use Rattle.std.specs.List.{filter_map}
use Rattle.std.specs.Option.{option_map_or}
use Rattle.std.specs.Str.{bytes_eq}
use Rattle.night_search.specs.Lines.{joined, receiver}
use Rattle.night_page.specs.Names.{AreNames}
use Rattle.night_page.specs.Rows.{Row, byte, fault, gs03, has_outcome, is_refused}
use Rattle.night_page.specs.declared.name.Name.{Name}

abbrev pub no_route : Row → List ℕ
no_route row = joined (codes "No route leads from GS03 " ∷ gs03 row ∷ codes ": add a route, and run these sets again" ∷ [])

abbrev pub delimiter_used : Row → List ℕ
delimiter_used row =
    joined (codes "The delimiter " ∷ byte row ∷ codes " of " ∷ receiver row
    ∷ codes " occurs in a set: choose another one, or ask the sender" ∷ [])

abbrev pub unknown_sender : List ℕ
unknown_sender = codes "No partner has this ISA05 and ISA06: add the partner, or ask who sends this"

-- a refused interchange with fault 8 has a sender that isn't known
abbrev pub is_unknown_sender : Row → Bool
is_unknown_sender row = is_refused row && bytes_eq (fault row) (codes "8")

-- what there is to do because of a row
abbrev pub cause_of : Row → Option (List ℕ)
cause_of row =
    if has_outcome (codes "held route") row then Some (no_route row)
    else if has_outcome (codes "held delimiter") row then Some (delimiter_used row)
    else if is_unknown_sender row then Some unknown_sender
    else None

abbrev pub has_cause : (cause : List ℕ) → Row → Bool
has_cause cause row = option_map_or (λ its. bytes_eq its cause) (cause_of row) false

-- the causes of rows, each once, in the order of bytes
abbrev pub AreCauses : List Row → List Name → Type 0
AreCauses rows causes = AreNames (filter_map cause_of rows) causes
