-- Files of tables (own): what a refusal says of the table that was read, and the numbers by which refusals are named.
use Rattle.std.specs.Prelude.{ℕ, Result, string_bytes}
use Rattle.toml_keys.specs.Refusals.{Refusal, missing, wrong_kind, unknown}
use Rattle.toml_keys.specs.Meanings.{Meaning, refuses, no_memory, other, GivesAs}
use Rattle.toml_keys.specs.declared.file_fault.FileFault.{FileFault}
use Rattle.toml_keys.specs.declared.file_fault.FileFault.TheVariants as fault

abbrev pub meaning_of : FileFault → Meaning
meaning_of fault.NotToml = other
meaning_of (fault.Missing k) = refuses (missing k.now)
meaning_of (fault.WrongKind k) = refuses (wrong_kind k.now)
meaning_of (fault.Unknown k) = refuses (unknown (string_bytes k))
meaning_of fault.NoMemory = no_memory

-- what was returned is what the reading of the table gives, unless memory ran out
abbrev pub Gives : {X : Type 0} → Result X FileFault → Result X Refusal → Type 0
Gives result read = GivesAs meaning_of (λ x. x) result read

abbrev pub refusal_number : FileFault → ℕ
refusal_number fault.NotToml = 1
refusal_number (fault.Missing key) = 2
refusal_number (fault.WrongKind key) = 3
refusal_number (fault.Unknown key) = 4
refusal_number fault.NoMemory = 5
