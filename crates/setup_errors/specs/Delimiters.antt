-- X12.5, delimiters: what is wrong with those of a partner.
use Rattle.std.specs.Prelude.{ℕ, ◌==◌, Bool, List, [], ◌∷◌, length, decimal, Option, Some, None, if◌then◌else◌}
use Rattle.std.specs.Option.{option_map_or, option_or}
use Rattle.partner_setup.specs.SetupFaults.{byte_of, may_delimit, may_end}
use Rattle.partner_setup.specs.declared.rows.PartnerRow.{PartnerRow}
use Rattle.setup_errors.specs.Sentences.{byte_text, filled}
use Rattle.setup_errors.specs.declared.delimiters.Delimiter.{Delimiter}
use Rattle.setup_errors.specs.declared.delimiters.Delimiter.TheVariants as delimiter
use Rattle.setup_errors.specs.declared.words.TheConstants as say

-- the key of a setup file
abbrev pub key_of : Delimiter → List ℕ
key_of delimiter.Element = say.ELEMENT.now
key_of delimiter.Component = say.COMPONENT.now
key_of delimiter.Repetition = say.REPETITION.now
key_of delimiter.Terminator = say.TERMINATOR.now

abbrev pub value_of : Delimiter → PartnerRow → List ℕ
value_of delimiter.Element p = p.element
value_of delimiter.Component p = p.component
value_of delimiter.Repetition p = p.repetition
value_of delimiter.Terminator p = p.terminator

abbrev pub may_be : Delimiter → ℕ → Bool
may_be delimiter.Element b = may_delimit b
may_be delimiter.Component b = may_delimit b
may_be delimiter.Repetition b = may_delimit b
may_be delimiter.Terminator b = may_end b

abbrev pub one_cause : Delimiter → ℕ → Option (List ℕ)
one_cause d b = if may_be d b then None else Some (filled say.NOT_ALLOWED.now (key_of d ∷ byte_text b ∷ []))

-- it is one byte, which is allowed
abbrev pub byte_cause : Delimiter → (value : List ℕ) → Option (List ℕ)
byte_cause d value =
    option_map_or (one_cause d) (byte_of value) (Some (filled say.NOT_ONE_BYTE.now (key_of d ∷ decimal (length value) ∷ [])))

unfoldable pub bytes_cause : PartnerRow → Option (List ℕ)
bytes_cause p =
    option_or (byte_cause delimiter.Element p.element) (option_or (byte_cause delimiter.Component p.component)
    (option_or (byte_cause delimiter.Repetition p.repetition) (byte_cause delimiter.Terminator p.terminator)))

-- one byte represents both
abbrev pub both_cause : (first second : Delimiter) → (a b : Option ℕ) → Option (List ℕ)
both_cause first second None b = None
both_cause first second (Some m) None = None
both_cause first second (Some m) (Some n) =
    if m == n then Some (filled say.SAME_BYTE.now (key_of first ∷ key_of second ∷ byte_text m ∷ [])) else None

abbrev pub same_cause : PartnerRow → (first second : Delimiter) → Option (List ℕ)
same_cause p first second = both_cause first second (byte_of (value_of first p)) (byte_of (value_of second p))

unfoldable pub same_causes : PartnerRow → Option (List ℕ)
same_causes p =
    option_or (same_cause p delimiter.Element delimiter.Component) (option_or (same_cause p delimiter.Element delimiter.Repetition)
    (option_or (same_cause p delimiter.Element delimiter.Terminator) (option_or (same_cause p delimiter.Component delimiter.Repetition)
    (option_or (same_cause p delimiter.Component delimiter.Terminator) (same_cause p delimiter.Repetition delimiter.Terminator)))))

-- the first of this that is so
abbrev pub delimiters_cause : PartnerRow → Option (List ℕ)
delimiters_cause p = option_or (bytes_cause p) (same_causes p)
