-- The setup (own): the hub, its partners, where sets go, and the guides; what is looked up in it.
use Rattle.std.specs.Prelude.{ℕ, Bool, ◌&&◌, List, [], ◌∷◌, map, Option, None, find, position, if◌then◌else◌}
use Rattle.std.specs.Prelude.{option_and_then, slice_get}
use Rattle.std.specs.List.{list_any}
use Rattle.std.specs.Option.{option_map_or}
use Rattle.std.specs.Str.{bytes_eq}
use Rattle.x12_bytes.specs.Header.{field_of}
use Rattle.x12_bytes.specs.Spaces.{without_trailing_spaces}
use Rattle.x12_bytes.specs.declared.delims.Delims.{Delims}
use Rattle.hub_kinds.specs.declared.counters.Counters.{Counters}
use Rattle.guide_tree.specs.declared.rows.GuideRows.{GuideRows}
use Rattle.partner_setup.specs.declared.partner.Partner.{Partner}
use Rattle.partner_setup.specs.declared.partner.Route.{Route}
use Rattle.partner_setup.specs.declared.rows.CounterRow.{CounterRow}
use Rattle.partner_setup.specs.declared.rows.HubRow.{HubRow}
use Rattle.partner_setup.specs.declared.rows.PartnerRow.{PartnerRow}
use Rattle.partner_setup.specs.declared.rows.RouteRow.{RouteRow}
use Rattle.partner_setup.specs.declared.rows.SetupRows.{SetupRows}
use Rattle.partner_setup.specs.Names.{place_of, places_of_texts, those_at}
use Rattle.partner_setup.specs.SetupFaults.{delims_of, guide_name, name_of_row}

pub record SetupValue : Type 0 where
  pub hub : HubRow
  pub partners : List Partner
  pub routes : List Route
  pub guides : List GuideRows

-- a partner without a row of counters starts at 1
abbrev pub first_counters : Counters
first_counters = record { interchange = 1; group = 1; set = 1 }

abbrev pub row_of : List CounterRow → (name : List ℕ) → Option CounterRow
row_of rows name = option_and_then (slice_get rows) (place_of (map (λ (c : CounterRow). c.partner) rows) name)

abbrev pub counters_of : List CounterRow → (name : List ℕ) → Counters
counters_of rows name = option_map_or (λ c. c.counters) (row_of rows name) first_counters

abbrev pub no_delims : Delims
no_delims = record { element = 0; component = 0; repetition = None; terminator = 0 }

abbrev pub delims_or_none : PartnerRow → Delims
delims_or_none row = option_map_or (λ d. d) (delims_of row) no_delims

abbrev pub partner_of : List CounterRow → List GuideRows → PartnerRow → Partner
partner_of counters guides row = record {
  name = row.name;
  qualifier = row.qualifier;
  id = row.id;
  code = row.code;
  delims = delims_or_none row;
  cap = row.cap;
  counters = counters_of counters row.name;
  guides = places_of_texts (map guide_name guides) row.guides;
}

abbrev pub route_by : List PartnerRow → RouteRow → Route
route_by partners row = record { code = row.code; to = places_of_texts (map name_of_row partners) row.to }

-- the setup that rows, counters and guides make where nothing is refused
abbrev pub setup_of : SetupRows → List CounterRow → List GuideRows → SetupValue
setup_of rows counters guides = record {
  hub = rows.hub;
  partners = map (partner_of counters guides) rows.partners;
  routes = map (route_by rows.partners) rows.routes;
  guides = guides;
}

abbrev pub has_qualifier_and_id : Partner → (qualifier id : List ℕ) → Bool
has_qualifier_and_id p qualifier id = bytes_eq p.qualifier qualifier && bytes_eq p.id id

-- the sender: the partner with ISA05 as qualifier and ISA06 without its trailing spaces as id
abbrev pub sender_of : SetupValue → (header : List ℕ) → Option ℕ
sender_of setup header = position (λ p. has_qualifier_and_id p (field_of header 5) (without_trailing_spaces
    (field_of header 6))) setup.partners

abbrev pub has_code : (code : List ℕ) → Route → Bool
has_code code route = bytes_eq route.code code

-- where sets for a GS03 go: the places of partners, in the route's order; nowhere without a route
abbrev pub targets_in : List Route → (code : List ℕ) → List ℕ
targets_in [] code = []
targets_in (route ∷ routes) code = if has_code code route then route.to else targets_in routes code

abbrev pub route_of : SetupValue → (code : List ℕ) → List ℕ
route_of setup code = targets_in setup.routes code

-- the guides of a partner
abbrev pub places_of : SetupValue → (partner : ℕ) → List ℕ
places_of setup partner = option_map_or (λ (p : Partner). p.guides) (slice_get setup.partners partner) []

abbrev pub guides_of : SetupValue → (partner : ℕ) → List GuideRows
guides_of setup partner = those_at setup.guides (places_of setup partner)

-- GS01; with GS08; and with ST01 too
abbrev pub is_for_group : (group : List ℕ) → GuideRows → Bool
is_for_group group g = bytes_eq g.head.group group

abbrev pub is_for_version : (group version : List ℕ) → GuideRows → Bool
is_for_version group version g = is_for_group group g && bytes_eq g.head.version version

abbrev pub is_for_set : (group version set : List ℕ) → GuideRows → Bool
is_for_set group version set g = is_for_version group version g && bytes_eq g.head.set set

abbrev pub has_group : SetupValue → (partner : ℕ) → (group : List ℕ) → Bool
has_group setup partner group = list_any (is_for_group group) (guides_of setup partner)

abbrev pub has_version : SetupValue → (partner : ℕ) → (group version : List ℕ) → Bool
has_version setup partner group version = list_any (is_for_version group version) (guides_of setup partner)

-- the partner's guide for a GS01, GS08 and ST01
abbrev pub guide_for_set : SetupValue → (partner : ℕ) → (group version set : List ℕ) → Option GuideRows
guide_for_set setup partner group version set = find (is_for_set group version set) (guides_of setup partner)
