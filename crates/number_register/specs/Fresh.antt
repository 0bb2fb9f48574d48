-- Own: books without a key. Private.
use Rattle.std.specs.Prelude.{ℕ, List, Option, None, map, length, replicate}
use Rattle.env_index.specs.Words.{IndexEntry, GroupEntry}
use denote.Ref.{Bor}

abbrev pub fresh_groups : IndexEntry → List (Option ℕ)
fresh_groups e = replicate (length e.interchange.content.groups) None

abbrev pub fresh_sets : GroupEntry → List (Option (Bor (List ℕ)))
fresh_sets g = replicate (length g.sets) None

abbrev pub fresh_books : IndexEntry → List (List (Option (Bor (List ℕ))))
fresh_books e = map fresh_sets e.interchange.content.groups
