-- 999 guide (005010X231), IK304: the ids of the dictionary that a segment position has too. It is asked for no such id.
use Rattle.std.specs.Prelude.{ℕ, Bool, List, [], ◌∷◌, ◌++◌, Option, None, Some}
use Rattle.std.specs.Str.{bytes_eq}
use Rattle.guide_tree.specs.Words.{Trees, find_slot}
use Rattle.guide_tree.specs.declared.slot.Slot.{Slot}
use Rattle.guide_warnings.specs.declared.warning.Warning.{Warning}
use Rattle.guide_warnings.specs.declared.warning.Warning.TheVariants as warning

abbrev pub has_id : (id : List ℕ) → Slot → Bool
has_id id s = bytes_eq s.id id

abbrev pub id_warning : Option Slot → List Warning
id_warning None = []
id_warning (Some s) = warning.IdInDictionary (record { slot = s.number; id = s.id }) ∷ []

-- of each id, the first segment position that has it
abbrev pub dictionary_warnings : Trees → (ids : List (List ℕ)) → List Warning
dictionary_warnings nodes [] = []
dictionary_warnings nodes (id ∷ ids) = id_warning (find_slot (has_id id) nodes) ++ dictionary_warnings nodes ids
