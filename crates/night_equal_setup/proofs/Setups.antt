-- The setup that the files describe, of tables and of bytes.
use Rattle.std.proofs.Common.{◌≡◌, ℕ, List, [], ◌∷◌, map, Option, Some, None, Ok, codes, option_and_then, option_map, refl, ap, ◌∙◌, subst}
use Rattle.std.specs.List.{AllZip}
use Rattle.toml.specs.Data.{Items, no_items, Members, as_table, get_member}
use Rattle.hub_kinds.specs.declared.counters.Counters.{Counters}
use Rattle.guide_tree.specs.declared.rows.GuideRows.{GuideRows}
use Rattle.guide_tree.specs.Words.{GuideTree, guide_of}
use Rattle.guide_toml.specs.FileBytes.{IsGuideOf}
use Rattle.toml_keys.specs.Keys.{least_unknown}
use Rattle.toml_keys.specs.Tables.{tables_in}
use Rattle.toml_keys.specs.Tables as then
use Rattle.partner_setup.specs.declared.partner.Partner.{Partner}
use Rattle.partner_setup.specs.declared.partner.Route.{Route}
use Rattle.partner_setup.specs.declared.rows.CounterRow.{CounterRow}
use Rattle.partner_setup.specs.declared.rows.HubRow.{HubRow}
use Rattle.partner_setup.specs.declared.rows.SetupRows.{SetupRows}
use Rattle.partner_setup.specs.Setup.{route_by, setup_of}
use Rattle.partner_setup.specs.Setup as then_setup
use Rattle.partner_setup.specs.SetupFaults.{first_fault}
use Rattle.partner_setup.specs.SetupFile.{hub_keys, hub_of as old_hub, known, partner_in, route_in, rows_in, setup_of_table, top_keys}
use Rattle.partner_setup.specs.SetupFile.{top_of}
use Rattle.night_definition.specs.Setup.{Setup}
use Rattle.night_definition.specs.Tables.{list_of, optional, required, table_of}
use Rattle.night_definition.specs.GuideFile.{all_of, guide_of_table}
use Rattle.night_definition.specs.SetupFile.{hub_of, partner_of, route_of, setup_of_tables}
use Rattle.night_definition.specs.Program.{table_in}
use Rattle.night_equal_guides.proofs.ForAbove.{guide_bytes_are_one, known_is, of_ok, ok_is}
use Rattle.night_equal_setup.specs.Laws.{SetupBytesAreOne, SetupFilesAreOne}
use Rattle.night_equal_setup.proofs.Accepted.{can_be_partner, can_be_route, partners_accepted, routes_accepted}
use Rattle.night_equal_setup.proofs.Counting.{counters_are, list_optional, list_required, rows_are}
use Rattle.night_equal_setup.proofs.Looking.{named_counters}
use Rattle.night_equal_setup.proofs.Partners.{hub_at, partner_at}
use Rattle.night_equal_setup.proofs.Routes.{names_are, route_at}

-- the definition's steps, from the last on
abbrev with_routes : List GuideTree → HubRow → List Partner → List Route → Option Setup
with_routes guides hub partners routes = Some (record { hub = hub; partners = partners; routes = routes; guides = guides })

abbrev with_partners : Members → List GuideTree → HubRow → List Partner → Option Setup
with_partners setup guides hub partners =
    option_and_then (with_routes guides hub partners) (optional [] (list_of (table_of (route_of partners))) (codes "route") setup)

abbrev with_hub : Members → List GuideTree → List (List ℕ × Counters) → HubRow → Option Setup
with_hub setup guides rows hub =
    option_and_then (with_partners setup guides hub) (required (list_of (table_of (partner_of rows guides))) (codes "partner") setup)

abbrev with_counters : Members → List GuideTree → List (List ℕ × Counters) → Option Setup
with_counters setup guides rows = option_and_then (with_hub setup guides rows) (required (table_of hub_of) (codes "hub") setup)

abbrev Top : Type 0
Top = Members × Items × Items

-- the parts of a setup file, each read alone
record ArePartsOf (setup : Members) (starts : List CounterRow) (guides : List GuideRows) (rows : SetupRows) : Type 0 where
  hub : required (table_of hub_of) (codes "hub") setup ≡ Some rows.hub
  partners : required (list_of (table_of (partner_of (map named_counters starts) (map guide_of guides)))) (codes "partner") setup
      ≡ Some (map (then_setup.partner_of starts guides) rows.partners)
  routes : optional [] (list_of (table_of (route_of (map (then_setup.partner_of starts guides) rows.partners)))) (codes "route") setup
      ≡ Some (map (route_by rows.partners) rows.routes)

parts_are : (setup : Members) (rows : SetupRows) (starts : List CounterRow) (guides : List GuideRows) → setup_of_table setup ≡ Ok rows
    → first_fault rows starts guides ≡ None → ArePartsOf setup starts guides rows
unfolding setup_of_table top_of
parts_are setup rows starts guides e none =
    of_ok _ (known top_keys setup (top_of setup)) rows e (λ (top : Top) is_top e1.
    of_ok _ (known hub_keys top.0 (old_hub top.0)) rows e1 (λ hub is_hub e2.
    of_ok _ (rows_in partner_in top.1) rows e2 (λ partners are_partners e3.
    of_ok _ (rows_in route_in top.2) rows e3 (λ routes are_routes e4.
    of_ok _ (then.required as_table (codes "hub") setup) top (known_is (least_unknown top_keys setup) (top_of setup) top is_top)
    (λ table is_table f1.
    of_ok _ (then.required tables_in (codes "partner") setup) top f1 (λ partner_items are_partner_items f2.
    of_ok _ (then.optional no_items tables_in (codes "route") setup) top f2 (λ route_items are_route_items f3.
    let read : SetupRows = record { hub = hub; partners = partners; routes = routes } in
    let same : read ≡ rows = ok_is read rows e4 in
    let parts : Top = (table, partner_items, route_items) in
    let whole : parts ≡ top = ok_is parts top f3 in
    let accepted : first_fault read starts guides ≡ None = ap (λ r. first_fault r starts guides) same ∙ none in
    let built : List Partner = map (then_setup.partner_of starts guides) partners in
    let all : ArePartsOf setup starts guides read = record {
      hub = hub_at setup table hub is_table
          (known_is (least_unknown hub_keys table) (old_hub table) hub
          (ap (λ (x : Top). known hub_keys x.0 (old_hub x.0)) whole ∙ is_hub));
      partners = list_required (codes "partner") (get_member (codes "partner") setup) partner_items
          (table_of (partner_of (map named_counters starts) (map guide_of guides))) built are_partner_items
          (rows_are partner_in (table_of (partner_of (map named_counters starts) (map guide_of guides)))
          (then_setup.partner_of starts guides) (can_be_partner guides) (partner_at starts guides) partner_items partners
          (ap (λ (x : Top). rows_in partner_in x.1) whole ∙ are_partners) (partners_accepted read starts guides accepted));
      routes = list_optional (codes "route") (get_member (codes "route") setup) route_items (table_of (route_of built))
          (map (route_by partners) routes) are_route_items
          (rows_are route_in (table_of (route_of built)) (route_by partners) (can_be_route partners)
          (route_at built partners (names_are starts guides partners)) route_items routes
          (ap (λ (x : Top). rows_in route_in x.2) whole ∙ are_routes) (routes_accepted read starts guides accepted));
    } in
    subst (ArePartsOf setup starts guides) same all)))))))

pub setup_files_are_one : SetupFilesAreOne
setup_files_are_one setup counters rows starts guides e f none =
    let parts : ArePartsOf setup starts guides rows = parts_are setup rows starts guides e none in
    let built : List Partner = map (then_setup.partner_of starts guides) rows.partners in
    ap (option_and_then (with_counters setup (map guide_of guides))) (counters_are counters starts f)
    ∙ ap (option_and_then (with_hub setup (map guide_of guides) (map named_counters starts))) parts.hub
    ∙ ap (option_and_then (with_partners setup (map guide_of guides) rows.hub)) parts.partners
    ∙ ap (option_and_then (with_routes (map guide_of guides) rows.hub built)) parts.routes

-- guide files
guides_are : (files : List (List ℕ)) (guides : List GuideRows) → AllZip (λ bytes guide. IsGuideOf (Some bytes) guide) files guides
    → all_of (map (λ bytes. option_and_then guide_of_table (table_in bytes)) files) ≡ Some (map guide_of guides)
guides_are [] [] zip = refl
guides_are [] (g ∷ gs) zip = absurd zip
guides_are (f ∷ fs) [] zip = absurd zip
guides_are (f ∷ fs) (g ∷ gs) zip =
    ap (option_and_then (λ (x : GuideTree). option_map (λ (xs : List GuideTree). x ∷ xs)
    (all_of (map (λ bytes. option_and_then guide_of_table (table_in bytes)) fs)))) (guide_bytes_are_one f g zip.0)
    ∙ ap (option_map (λ (xs : List GuideTree). guide_of g ∷ xs)) (guides_are fs gs zip.1)

pub setup_bytes_are_one : SetupBytesAreOne
setup_bytes_are_one setup counters files rows starts guides zip s c none =
    ap (option_and_then (λ gs. option_and_then (λ x. option_and_then (λ y. setup_of_tables x y gs) (table_in counters)) (table_in setup)))
    (guides_are files guides zip)
    ∙ ap (option_and_then (λ x. option_and_then (λ y. setup_of_tables x y (map guide_of guides)) (table_in counters))) s.1
    ∙ ap (option_and_then (λ y. setup_of_tables s.0 y (map guide_of guides))) c.1
    ∙ setup_files_are_one s.0 c.0 rows starts guides s.2 c.2 none
