-- What clap found in the arguments that a program is called with (own).
use Rattle.std.specs.Prelude.{ℕ, Bool, List, [], Option, Some, None, option_map, nat_le, eqb, not, ◌&&◌}
use Rattle.clap.specs.Words.{Text, matched_of, raw_values}
use Rattle.clap.specs.declared.parser.matches.Found.{Found}

-- the values that it found for an argument, in their order
abbrev pub values_found : Found → Text → Option (List Text)
values_found found name = option_map raw_values (matched_of found name)

abbrev pub or_none : Option (List Text) → List Text
or_none None = []
or_none (Some texts) = texts

-- a byte that doesn't control a terminal: those of a text beyond ASCII are signs
abbrev pub is_sign : ℕ → Bool
is_sign byte = nat_le 32 byte && not (eqb byte 127)
