-- A names file (own): which keys its tables have, what is at each, and the first key that is refused.
use Rattle.std.specs.Prelude.{◌≡◌, ℕ, List, [], ◌∷◌, ◌++◌, Option, None, Some, codes, if◌then◌else◌}
use Rattle.std.specs.Option.{option_or}
use Rattle.std.specs.Str.{bytes_eq, is_utf8}
use Rattle.toml.specs.Data.{Data, Members, as_str, as_table, no_members, member}
use Rattle.toml.specs.Parse.{parse_document}
use Rattle.guide_names.specs.Names.{Words, words_of}
use Rattle.guide_names.specs.declared.fault.Cause.{Cause}
use Rattle.guide_names.specs.declared.fault.Cause.TheVariants as cause
use Rattle.guide_names.specs.declared.fault.NamesFault.{NamesFault}
use Rattle.guide_names.specs.declared.fault.NamesFault.TheVariants as fault
use Rattle.guide_names.specs.declared.fault.Refused.{Refused}
use Rattle.guide_names.specs.declared.refused.Leaf.{Leaf}
use Rattle.guide_names.specs.declared.refused.Leaf.TheVariants as leaf

-- what may be at a key, which is in these tables
abbrev pub Judges : Type 0
Judges = (tables : List (List ℕ)) → (key : List ℕ) → Data → Option Refused

-- a key that is refused, and the tables that it is in
abbrev pub refusal : Cause → (tables : List (List ℕ)) → (key : List ℕ) → Option Refused
refusal why tables key = Some (record { tables = tables; key = key; why = why })

-- no such key is known
abbrev pub unknown : Judges
unknown tables key d = refusal cause.Unknown tables key

-- a text
abbrev pub is_text_or : Option (List ℕ) → Option Refused → Option Refused
is_text_or None refused = refused
is_text_or (Some text) refused = None

abbrev pub text : Judges
text tables key d = is_text_or (as_str d) (refusal cause.NotText tables key)

-- the first key of a table that is refused
abbrev pub first_refused : Judges → (tables : List (List ℕ)) → Members → Option Refused
first_refused judge tables no_members = None
first_refused judge tables (member key d ms) = option_or (judge tables key d) (first_refused judge tables ms)

-- a table, whose keys are judged
abbrev pub inner_or : Judges → (tables : List (List ℕ)) → (key : List ℕ) → Option Members → Option Refused → Option Refused
inner_or judge tables key None refused = refused
inner_or judge tables key (Some ms) refused = first_refused judge (tables ++ key ∷ []) ms

abbrev pub table_of : Judges → Judges
table_of judge tables key d = inner_or judge tables key (as_table d) (refusal cause.NotTable tables key)

-- the keys of the table [set]
abbrev pub set_key : Judges
set_key tables key d =
    if bytes_eq key (codes "name") then text tables key d
    else if bytes_eq key (codes "note") then text tables key d
    else unknown tables key d

-- the keys of a label's table
abbrev pub label_key : Judges
label_key tables key d = if bytes_eq key (codes "note") then text tables key d else unknown tables key d

-- private: the judge of the keys of a table with no table in it
abbrev pub judge_of : Leaf → Judges
judge_of leaf.Set = set_key
judge_of leaf.Words = text
judge_of leaf.Label = label_key

-- the keys of the file
abbrev pub file_key : Judges
file_key tables key d =
    if bytes_eq key (codes "set") then table_of set_key tables key d
    else if bytes_eq key (codes "segment") then table_of text tables key d
    else if bytes_eq key (codes "element") then table_of (table_of text) tables key d
    else if bytes_eq key (codes "label") then table_of (table_of label_key) tables key d
    else unknown tables key d

-- the first key of a names file that is refused
abbrev pub refused_in : Members → Option Refused
refused_in ms = first_refused file_key [] ms

-- the table that bytes write
abbrev pub written_table : (bytes : List ℕ) → Option Members
written_table bytes = if is_utf8 bytes then parse_document bytes else None

-- the bytes write the names
pub record AreNamesOf (bytes : List ℕ) (words : Words) : Type 0 where
  pub table : Members
  pub written : written_table bytes ≡ Some table
  pub known : refused_in table ≡ None
  pub words_are : words ≡ words_of table

pub record IsRefusedIn (bytes : List ℕ) (refused : Refused) : Type 0 where
  pub table : Members
  pub written : written_table bytes ≡ Some table
  pub first : refused_in table ≡ Some refused

-- private: why a table has no names
abbrev pub IsFaultOf : Members → NamesFault → Type 0
IsFaultOf table fault.NotToml = ⊥
IsFaultOf table (fault.Key refused) = refused_in table ≡ Some refused
IsFaultOf table fault.NoMemory = Unit {0}

-- why the bytes write no names; out of memory says nothing of them
abbrev pub IsNamesFaultOf : (bytes : List ℕ) → NamesFault → Type 0
IsNamesFaultOf bytes fault.NotToml = written_table bytes ≡ None
IsNamesFaultOf bytes (fault.Key refused) = IsRefusedIn bytes refused
IsNamesFaultOf bytes fault.NoMemory = Unit {0}
