-- Own: the lists of texts of guide files and setup files, and the first value of one that can't be there.
use Rattle.std.specs.Prelude.{ℕ, ◌+◌, List, Option, None, Some, Bool, false, if◌then◌else◌, is_some}
use Rattle.std.specs.Option.{option_map_or}
use Rattle.toml.specs.Data.{Data, Items, no_items, item, as_str}
use Rattle.guide_toml.specs.ListedTexts.{can_stand}
use Rattle.guide_toml.specs.declared.listed_text.ListedText.{ListedText}
use Rattle.key_errors.specs.Rows.{find_by}
use Rattle.key_errors.specs.declared.list_items.ListItem.{ListItem}
use Rattle.key_errors.specs.declared.list_items.ListItem.TheVariants as item_kind
use Rattle.key_errors.specs.declared.list_items.TheConstants.{ITEMS}

-- a text of a guide file's list that is for something
abbrev pub is_listed : ListedText → Data → Bool
is_listed kind d = option_map_or (can_stand kind) (as_str d) false

abbrev pub is_item : ListItem → Data → Bool
is_item item_kind.AnyText d = is_some (as_str d)
is_item (item_kind.Guide kind) d = is_listed kind d

-- the first that can't be there, by its number, the first of these having this one
abbrev pub first_wrong : ListItem → (number : ℕ) → Items → Option (ℕ × Data)
first_wrong kind number no_items = None
first_wrong kind number (item d ds) = if is_item kind d then first_wrong kind (number + 1) ds else Some (number, d)

-- what the values of the list at a key are, by the table of `src/list_items.rt`
abbrev pub items_at : (key : List ℕ) → Option ListItem
items_at key = find_by (λ row. row.0.now) (λ row. row.1) ITEMS key
