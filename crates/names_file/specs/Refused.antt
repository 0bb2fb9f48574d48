-- Why a names file is refused (own words): the table, the key and one cause.
use Rattle.std.specs.Prelude.{◌≡◌, ℕ, List, [], ◌∷◌, ◌++◌, Option, None, Some, codes}
use Rattle.key_errors.specs.NoTables.{IsNoTableSaid}
use Rattle.guide_names.specs.Names.{Words}
use Rattle.guide_names.specs.Refusals.{AreNamesOf, IsNamesFaultOf}
use Rattle.guide_names.specs.declared.fault.Cause.{Cause}
use Rattle.guide_names.specs.declared.fault.Cause.TheVariants as cause
use Rattle.guide_names.specs.declared.fault.NamesFault.{NamesFault}
use Rattle.guide_names.specs.declared.fault.NamesFault.TheVariants as fault
use Rattle.guide_names.specs.declared.fault.Refused.{Refused}
use Rattle.names_file.specs.declared.judge.JudgedNames.{JudgedNames}
use Rattle.names_file.specs.declared.judge.JudgedNames.TheVariants as judged

abbrev pub unreadable : List ℕ
unreadable = codes "it can't be read"

abbrev pub cause_text : Cause → List ℕ
cause_text cause.Unknown = codes " isn't a key of its table"
cause_text cause.NotText = codes " must be a text"
cause_text cause.NotTable = codes " must be a table"

-- a key, as it is written
abbrev pub key_text : List ℕ → List ℕ
key_text key = codes "`" ++ (key ++ codes "`")

-- the keys of tables after one another
abbrev pub further_tables : List (List ℕ) → List ℕ
further_tables [] = codes "]: "
further_tables (key ∷ keys) = codes "." ++ (key ++ further_tables keys)

abbrev pub tables_text : List (List ℕ) → List ℕ
tables_text [] = []
tables_text (key ∷ keys) = codes "[" ++ (key ++ further_tables keys)

abbrev pub refused_text : Refused → List ℕ
refused_text r = tables_text r.tables ++ (key_text r.key ++ cause_text r.why)

-- what is said of a fault of the bytes
abbrev pub IsNamesSaid : (bytes : List ℕ) → NamesFault → (text : List ℕ) → Type 0
IsNamesSaid bytes fault.NotToml text = IsNoTableSaid bytes text
IsNamesSaid bytes (fault.Key refused) text = text ≡ refused_text refused
IsNamesSaid bytes fault.NoMemory text = ⊥

-- the words by which a names file is refused
abbrev pub IsNamesRefused : Option (List ℕ) → (text : List ℕ) → Type 0
IsNamesRefused None text = text ≡ unreadable
IsNamesRefused (Some bytes) text = (f : NamesFault) × IsNamesFaultOf bytes f × IsNamesSaid bytes f text

abbrev pub IsTaken : Option (List ℕ) → Words → Type 0
IsTaken None words = ⊥
IsTaken (Some bytes) words = AreNamesOf bytes words

-- what a names file is judged as
abbrev pub IsNamesJudged : Option (List ℕ) → JudgedNames → Type 0
IsNamesJudged bytes (judged.Taken words) = IsTaken bytes words
IsNamesJudged bytes (judged.Refused text) = IsNamesRefused bytes text
