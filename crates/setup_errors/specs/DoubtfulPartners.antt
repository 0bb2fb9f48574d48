-- X12.5, delimiters (own): partners with a delimiter that texts often hold.
use Rattle.std.specs.Prelude.{ℕ, Bool, List, [], ◌∷◌, ◌++◌, codes, ◌==◌, Option, None, Some, if◌then◌else◌, option_and_then}
use Rattle.std.specs.List.{list_any}
use Rattle.partner_setup.specs.SetupFaults.{byte_of}
use Rattle.partner_setup.specs.declared.rows.PartnerRow.{PartnerRow}
use Rattle.setup_errors.specs.Delimiters.{key_of, value_of}
use Rattle.setup_errors.specs.Sentences.{byte_text, filled, told_at}
use Rattle.setup_errors.specs.declared.delimiters.Delimiter.{Delimiter}
use Rattle.setup_errors.specs.declared.delimiters.Delimiter.TheVariants as delimiter
use Rattle.setup_errors.specs.declared.words.TheConstants as say

-- marks that names, addresses and descriptions often hold
abbrev pub is_common : ℕ → Bool
is_common b = list_any (λ c. c == b) (codes "&'(),/#%@$\"+;=?")

abbrev pub common_cause : Delimiter → ℕ → Option (List ℕ)
common_cause d b = if is_common b then Some (filled say.OFTEN_HELD.now (key_of d ∷ byte_text b ∷ [])) else None

abbrev pub delimiter_warning : (place : List ℕ) → PartnerRow → Delimiter → List (List ℕ)
delimiter_warning place p d = told_at place (option_and_then (common_cause d) (byte_of (value_of d p)))

abbrev pub delimiter_warnings : (place : List ℕ) → PartnerRow → List (List ℕ)
delimiter_warnings place p =
    delimiter_warning place p delimiter.Element ++ (delimiter_warning place p delimiter.Component
    ++ (delimiter_warning place p delimiter.Repetition ++ delimiter_warning place p delimiter.Terminator))
