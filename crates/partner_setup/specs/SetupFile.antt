-- The setup file (own): the rows that a table writes, and the first fault of one that writes none.
use Rattle.std.specs.Prelude.{ℕ, Bool, nat_le, ◌&&◌, List, [], ◌∷◌, length, codes, Option, Some, None, Result, Ok, Err, if◌then◌else◌}
use Rattle.std.specs.Prelude.{option_and_then}
use Rattle.std.specs.Str.{bytes_eq}
use Rattle.toml.specs.Data.{Data, table, Items, no_items, item, Members, as_str, as_table}
use Rattle.toml_keys.specs.Refusals.{Refusal, wrong_kind}
use Rattle.toml_keys.specs.Keys.{least_unknown, if_known}
use Rattle.toml_keys.specs.Tables.{◌>>=◌, required, optional, count_of_data, list_in, tables_in}
use Rattle.partner_setup.specs.declared.rows.HubRow.{HubRow}
use Rattle.partner_setup.specs.declared.rows.PartnerRow.{PartnerRow}
use Rattle.partner_setup.specs.declared.rows.RouteRow.{RouteRow}
use Rattle.partner_setup.specs.declared.rows.SetupRows.{SetupRows}
use Rattle.partner_setup.specs.declared.rows.Usage.{Usage}
use Rattle.partner_setup.specs.declared.rows.Usage.TheVariants as usage

abbrev pub top_keys : List (List ℕ)
top_keys = codes "hub" ∷ codes "partner" ∷ codes "route" ∷ []

abbrev pub hub_keys : List (List ℕ)
hub_keys = codes "qualifier" ∷ codes "id" ∷ codes "code" ∷ codes "usage" ∷ []

abbrev pub partner_keys : List (List ℕ)
partner_keys =
    codes "name" ∷ codes "qualifier" ∷ codes "id" ∷ codes "code" ∷ codes "element" ∷ codes "component"
    ∷ codes "repetition" ∷ codes "terminator" ∷ codes "cap" ∷ codes "guides" ∷ []

abbrev pub route_keys : List (List ℕ)
route_keys = codes "code" ∷ codes "to" ∷ []

-- a table without another key than those listed is read; else the least of the others is refused
abbrev pub known : {A : Type 0} → (listed : List (List ℕ)) → Members → Result A Refusal → Result A Refusal
known listed ms read = if_known (least_unknown listed ms) read

-- `P` or `T`
abbrev pub usage_of : List ℕ → Option Usage
usage_of s =
    if bytes_eq s (codes "P") then Some usage.Production
    else (if bytes_eq s (codes "T") then Some usage.Test else None)

abbrev pub usage_in : Data → Option Usage
usage_in d = option_and_then usage_of (as_str d)

-- 1 to 16 texts
abbrev pub are_receivers : List (List ℕ) → Bool
are_receivers texts = nat_le 1 (length texts) && nat_le (length texts) 16

abbrev pub some_receivers : List (List ℕ) → Option (List (List ℕ))
some_receivers texts = if are_receivers texts then Some texts else None

-- the receivers of a route: a text, or else a list of 1 to 16 texts
abbrev pub receivers_or : (text : Option (List ℕ)) → Data → Option (List (List ℕ))
receivers_or (Some text) d = Some (text ∷ [])
receivers_or None d = option_and_then some_receivers (list_in as_str d)

abbrev pub receivers_in : Data → Option (List (List ℕ))
receivers_in d = receivers_or (as_str d) d

unfoldable pub hub_of : Members → Result HubRow Refusal
hub_of ms = do
  qualifier ← required as_str (codes "qualifier") ms
  id ← required as_str (codes "id") ms
  code ← required as_str (codes "code") ms
  indicator ← required usage_in (codes "usage") ms
  Ok (record { qualifier = qualifier; id = id; code = code; usage = indicator })

unfoldable pub partner_of : Members → Result PartnerRow Refusal
partner_of ms = do
  name ← required as_str (codes "name") ms
  qualifier ← required as_str (codes "qualifier") ms
  id ← required as_str (codes "id") ms
  code ← required as_str (codes "code") ms
  element ← required as_str (codes "element") ms
  component ← required as_str (codes "component") ms
  repetition ← required as_str (codes "repetition") ms
  terminator ← required as_str (codes "terminator") ms
  cap ← required count_of_data (codes "cap") ms
  guides ← required (list_in as_str) (codes "guides") ms
  Ok (record {
    name = name;
    qualifier = qualifier;
    id = id;
    code = code;
    element = element;
    component = component;
    repetition = repetition;
    terminator = terminator;
    cap = cap;
    guides = guides;
  })

unfoldable pub route_of : Members → Result RouteRow Refusal
route_of ms = do
  code ← required as_str (codes "code") ms
  to ← required receivers_in (codes "to") ms
  Ok (record { code = code; to = to })

abbrev pub partner_in : Data → Result PartnerRow Refusal
partner_in (table ms) = known partner_keys ms (partner_of ms)
partner_in _ = Err (wrong_kind (codes "partner"))

abbrev pub route_in : Data → Result RouteRow Refusal
route_in (table ms) = known route_keys ms (route_of ms)
route_in _ = Err (wrong_kind (codes "route"))

-- the rows of a list of tables, in their order
abbrev pub rows_in : {A : Type 0} → (Data → Result A Refusal) → Items → Result (List A) Refusal
rows_in read no_items = Ok []
rows_in read (item d ds) = read d >>= λ x. rows_in read ds >>= λ xs. Ok (x ∷ xs)

unfoldable pub top_of : Members → Result (Members × Items × Items) Refusal
top_of ms = do
  hub ← required as_table (codes "hub") ms
  partners ← required tables_in (codes "partner") ms
  routes ← optional no_items tables_in (codes "route") ms
  Ok (hub, partners, routes)

-- the setup: the top table's own keys, and then `hub`, each `partner` and each `route`
unfoldable pub setup_of_table : Members → Result SetupRows Refusal
setup_of_table ms = do
  top ← known top_keys ms (top_of ms)
  hub ← known hub_keys top.0 (hub_of top.0)
  partners ← rows_in partner_in top.1
  routes ← rows_in route_in top.2
  Ok (record { hub = hub; partners = partners; routes = routes })
