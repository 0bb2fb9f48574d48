-- Own: what may be at each key of the tables of guide files, setup files and counters files, and which keys must be there.
use Rattle.std.specs.Prelude.{ℕ, ◌==◌, Bool, false, ◌||◌, ◌&&◌, not, List, [], ◌∷◌, codes}
use Rattle.std.specs.Prelude.{if◌then◌else◌, is_none, is_some, unwrap_or}
use Rattle.std.specs.Option.{option_map_or}
use Rattle.std.specs.Str.{bytes_eq}
use Rattle.hub_kinds.specs.Words.{contains_text}
use Rattle.toml.specs.Data.{Data, Members, as_array, as_bool, as_str, as_table, get_member}
use Rattle.toml_keys.specs.Tables.{are_tables, count_of_data, word_in}
use Rattle.guide_toml.specs.Keys.{keys_of as guide_keys_of}
use Rattle.guide_toml.specs.Values.{group_in}
use Rattle.guide_toml.specs.declared.keys.TableKind.TheVariants as guide
use Rattle.partner_setup.specs.SetupFile.{receivers_in}
use Rattle.key_errors.specs.KeyTables.{keys_of}
use Rattle.key_errors.specs.ListItems.{first_wrong}
use Rattle.key_errors.specs.Rows.{find_by}
use Rattle.key_errors.specs.declared.key_forms.TheConstants as own
use Rattle.key_errors.specs.declared.key_forms.ValueForm.{ValueForm}
use Rattle.key_errors.specs.declared.key_forms.ValueForm.TheVariants as form
use Rattle.key_errors.specs.declared.key_tables.KeyTable.{KeyTable}
use Rattle.key_errors.specs.declared.key_tables.KeyTable.TheVariants as table
use Rattle.key_errors.specs.declared.list_items.ListItem.{ListItem}

abbrev pub are_items : ListItem → Data → Bool
are_items kind d = option_map_or (λ ds. is_none (first_wrong kind 1 ds)) (as_array d) false

abbrev pub is_usage : Data → Bool
is_usage d = option_map_or (λ s. bytes_eq s (codes "P") || bytes_eq s (codes "T")) (as_str d) false

abbrev pub is_version : Data → Bool
is_version d = option_map_or (λ n. (n == 1) || (n == 2)) (count_of_data d) false

abbrev pub is_dependency_kind : Data → Bool
is_dependency_kind d = option_map_or (λ s. bytes_eq s (codes "need") || bytes_eq s (codes "ban")) (as_str d) false

-- whether a value has a form
abbrev pub stands : ValueForm → Data → Bool
stands form.Text d = is_some (as_str d)
stands (form.Word least most) d = is_some (word_in least most d)
stands form.Number d = is_some (count_of_data d)
stands form.Flag d = is_some (as_bool d)
stands form.Table d = is_some (as_table d)
stands form.Rows d = option_map_or are_tables (as_array d) false
stands (form.Items kind) d = are_items kind d
stands form.Receivers d = is_some (receivers_in d)
stands form.Usage d = is_usage d
stands form.Version d = is_version d
stands form.Group d = is_some (group_in d)
stands form.DependencyKind d = is_dependency_kind d

-- what may be at a key of a table, by the tables of `src/key_forms.rt`
abbrev pub form_of : KeyTable → (key : List ℕ) → ValueForm
form_of table.Setup key = unwrap_or (find_by (λ row. row.0.now) (λ row. row.1) own.SETUP_FORMS key) form.Rows
form_of table.Hub key = unwrap_or (find_by (λ row. row.0.now) (λ row. row.1) own.HUB_FORMS key) form.Text
form_of table.Partner key = unwrap_or (find_by (λ row. row.0.now) (λ row. row.1) own.PARTNER_FORMS key) form.Text
form_of table.Route key = unwrap_or (find_by (λ row. row.0.now) (λ row. row.1) own.ROUTE_FORMS key) form.Text
form_of table.Counters key = unwrap_or (find_by (λ row. row.0.now) (λ row. row.1) own.COUNTERS_FORMS key) form.Rows
form_of table.Counter key = unwrap_or (find_by (λ row. row.0.now) (λ row. row.1) own.COUNTER_FORMS key) form.Number
form_of table.Guide key = unwrap_or (find_by (λ row. row.0.now) (λ row. row.1) own.GUIDE_FORMS key) form.Rows
form_of table.Hierarchy key = unwrap_or (find_by (λ row. row.0.now) (λ row. row.1) own.HIERARCHY_FORMS key) form.Flag
form_of table.Dependency key = unwrap_or (find_by (λ row. row.0.now) (λ row. row.1) own.DEPENDENCY_FORMS key) form.Number
form_of table.Node key = unwrap_or (find_by (λ row. row.0.now) (λ row. row.1) own.NODE_FORMS key) form.Number

-- the keys that are optional; a counter's `group` is in version 2 alone
abbrev pub is_free : KeyTable → (key : List ℕ) → Bool
is_free table.Counters key = bytes_eq key (codes "counter")
is_free table.Counter key = bytes_eq key (codes "group")
is_free table.Guide key =
    contains_text
    (codes "convention" ∷ codes "dictionary" ∷ codes "tolerate_segment" ∷ codes "tolerate_element" ∷ codes "hl" ∷ codes "depends" ∷ [])
    key
is_free table.Node key = contains_text (codes "label" ∷ codes "pick" ∷ codes "conditions" ∷ []) key
is_free _ key = false

abbrev pub has : (key : List ℕ) → Members → Bool
has key ms = is_some (get_member key ms)

-- a node is a loop by its key; one with both keys or neither is read as a segment position
abbrev pub is_loop : Members → Bool
is_loop ms = has (codes "loop") ms && not (has (codes "seg") ms)

-- the keys that a table may have
abbrev pub own_keys : KeyTable → Members → List (List ℕ)
own_keys table.Node ms = if is_loop ms then guide_keys_of guide.Loop else guide_keys_of guide.Segment
own_keys kind ms = keys_of kind
