-- Own: of which table of a file a refusal of a key holds.
use Rattle.std.specs.Prelude.{ℕ, List, codes, Option, None, Some, Bool, true, false, ◌&&◌, not, is_some, is_none}
use Rattle.std.specs.Str.{bytes_eq}
use Rattle.hub_kinds.specs.Words.{contains_text}
use Rattle.toml.specs.Data.{Data, Members, get_member}
use Rattle.key_errors.specs.KeyForms.{form_of, stands}
use Rattle.key_errors.specs.KeyTables.{keys_of}
use Rattle.key_errors.specs.declared.key_tables.KeyTable.{KeyTable}
use Rattle.key_errors.specs.declared.key_tables.KeyTable.TheVariants as table
use Rattle.key_errors.specs.declared.key_tables.KeyFault.{KeyFault}
use Rattle.key_errors.specs.declared.key_tables.KeyFault.TheVariants as fault

abbrev pub is_key : KeyTable → List ℕ → Bool
is_key kind key = contains_text (keys_of kind) key

-- more than one table of the file may have its keys
abbrev pub is_one_of_many : KeyTable → Bool
is_one_of_many table.Hub = true
is_one_of_many table.Partner = true
is_one_of_many table.Route = true
is_one_of_many table.Counter = true
is_one_of_many table.Dependency = true
is_one_of_many _ = false

-- whether a value may be at a key of such a table; where no other table of the file has the key, no value is looked at
abbrev pub fits : KeyTable → (key : List ℕ) → Data → Bool
fits kind key d = is_one_of_many kind && stands (form_of kind key) d

-- a counter's `group` is unknown in version 1
abbrev pub is_known : KeyTable → List ℕ → Bool
is_known table.Counter key = is_key table.Counter key && not (bytes_eq key (codes "group"))
is_known kind key = is_key kind key

-- something is at a key that can't
abbrev pub is_wrong : KeyTable → (key : List ℕ) → Option Data → Bool
is_wrong kind key None = false
is_wrong kind key (Some d) = not (fits kind key d)

-- whether the refusal of a key holds of such a table
abbrev pub holds : KeyTable → KeyFault → (key : List ℕ) → Members → Bool
holds kind fault.Missing key ms = is_key kind key && is_none (get_member key ms)
holds kind fault.WrongKind key ms = is_key kind key && is_wrong kind key (get_member key ms)
holds kind fault.Unknown key ms = not (is_known kind key) && is_some (get_member key ms)
