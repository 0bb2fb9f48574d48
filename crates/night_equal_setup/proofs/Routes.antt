-- The routes of a setup file.
use Rattle.std.proofs.Common.{◌≡◌, ℕ, List, [], ◌∷◌, map, Bool, true, false, cond, Option, Some, None, Ok, Err, codes, is_some}
use Rattle.std.proofs.Common.{option_map, option_and_then, refl, ap, ◌∙◌}
use Rattle.std.specs.List.{list_all}
use Rattle.std.specs.Option.{option_map_or}
use Rattle.toml.specs.Data.{Data, string, integer, float, boolean, datetime, array, table, Members, get_member, as_str}
use Rattle.hub_kinds.specs.Words.{contains_text}
use Rattle.guide_tree.specs.declared.rows.GuideRows.{GuideRows}
use Rattle.toml_keys.specs.Refusals.{missing, wrong_kind}
use Rattle.toml_keys.specs.Keys.{least_unknown}
use Rattle.toml_keys.specs.Tables.{list_in, required_of}
use Rattle.toml_keys.specs.Tables as then
use Rattle.partner_setup.specs.declared.partner.Partner.{Partner}
use Rattle.partner_setup.specs.declared.partner.Route.{Route}
use Rattle.partner_setup.specs.declared.rows.CounterRow.{CounterRow}
use Rattle.partner_setup.specs.declared.rows.PartnerRow.{PartnerRow}
use Rattle.partner_setup.specs.declared.rows.RouteRow.{RouteRow}
use Rattle.partner_setup.specs.Names.{and_some, places_of_texts}
use Rattle.partner_setup.specs.Names as then_names
use Rattle.partner_setup.specs.Setup.{route_by}
use Rattle.partner_setup.specs.Setup as then_setup
use Rattle.partner_setup.specs.SetupFaults.{name_of_row}
use Rattle.partner_setup.specs.SetupFile.{are_receivers, receivers_in, receivers_or, route_in, route_of as old_route, route_keys}
use Rattle.partner_setup.specs.SetupFile.{some_receivers}
use Rattle.night_definition.specs.Tables.{required, table_of, texts}
use Rattle.night_definition.specs.SetupFile.{names_of, place_of, receivers, route_of}
use Rattle.night_equal_guides.proofs.ForAbove.{asked_is, known_is, of_ok, ok_is}
use Rattle.night_equal_setup.proofs.Accepted.{can_be_route}
use Rattle.night_equal_setup.proofs.Looking.{both, has_place, list_placed, place_is}
use Rattle.night_equal_setup.proofs.Partners.{text_is}

-- one receiver
one_place : (o : Option ℕ) → is_some o ≡ true → option_map (λ (p : ℕ). p ∷ []) o ≡ Some (and_some o [])
one_place (Some p) e = refl
one_place None e = let no : false ≡ true = e in cc

of_some : (ts us : List (List ℕ)) → (let o : Option (List (List ℕ)) = Some ts in o ≡ Some us) → ts ≡ us
of_some ts us e = cc

one_receiver : (there : List (List ℕ)) (name : List ℕ) (to : List (List ℕ)) → name ∷ [] ≡ to → list_all (contains_text there) to ≡ true
    → option_map (λ (p : ℕ). p ∷ []) (place_of there name) ≡ Some (places_of_texts there to)
one_receiver there name to same all =
    ap (option_map (λ (p : ℕ). p ∷ [])) (place_is there name)
    ∙ one_place (then_names.place_of there name)
    (has_place 0 there name ∙ (both (contains_text there name) true (ap (list_all (contains_text there)) same ∙ all)).0)
    ∙ ap (λ (ts : List (List ℕ)). Some (places_of_texts there ts)) same

taken : (o : Option (List (List ℕ))) (to : List (List ℕ)) → option_and_then some_receivers o ≡ Some to → o ≡ Some to
taken None to e = let no : None ≡ Some to = e in cc
taken (Some ts) to e = by (are_receivers ts) e
  where
    by : (b : Bool) → cond b (Some ts) None ≡ Some to → Some ts ≡ Some to
    by true e = e
    by false e = let no : None ≡ Some to = e in cc

receivers_by : (there : List (List ℕ)) (d : Data) (to : List (List ℕ)) (o : Option (List ℕ)) → receivers_or o d ≡ Some to
    → list_all (contains_text there) to ≡ true
    → option_map_or (λ name. option_map (λ (p : ℕ). p ∷ []) (place_of there name)) o (texts (place_of there) d)
    ≡ Some (places_of_texts there to)
receivers_by there d to (Some name) e all = one_receiver there name to (of_some (name ∷ []) to e) all
receivers_by there d to None e all = list_placed there d to (taken (list_in as_str d) to e) all

receivers_at : (ps : List Partner) (there : List (List ℕ)) → names_of ps ≡ there → (key : List ℕ) (o : Option Data) (to : List (List ℕ))
    → required_of receivers_in key o ≡ Ok to → list_all (contains_text there) to ≡ true
    → option_and_then (receivers ps) o ≡ Some (places_of_texts there to)
receivers_at ps there named key None to e all = let no : Err (missing key) ≡ Ok to = e in cc
receivers_at ps there named key (Some d) to e all =
    ap (λ (ns : List (List ℕ)). option_map_or (λ name. option_map (λ (p : ℕ). p ∷ []) (place_of ns name)) (as_str d)
    (texts (place_of ns) d))
    named
    ∙ receivers_by there d to (as_str d) (asked_is key (receivers_in d) to e) all

-- the partners that are built have the names of their rows
pub names_are : (counters : List CounterRow) (guides : List GuideRows) (rows : List PartnerRow)
    → names_of (map (then_setup.partner_of counters guides) rows) ≡ map name_of_row rows
names_are counters guides [] = refl
names_are counters guides (r ∷ rows) = ap (λ (ns : List (List ℕ)). r.name ∷ ns) (names_are counters guides rows)

abbrev route_made : Option (List ℕ) → Option (List ℕ) → Option Route
route_made code to = option_and_then (λ code. option_and_then (λ to. Some (let r : Route = record { code = code; to = to } in r)) to) code

route_is : (ps : List Partner) (rows : List PartnerRow) (ms : Members) (row : RouteRow) → names_of ps ≡ map name_of_row rows
    → old_route ms ≡ Ok row → can_be_route rows row ≡ true → route_of ps ms ≡ Some (route_by rows row)
unfolding old_route
route_is ps rows ms row named e can =
    of_ok _ (then.required as_str (codes "code") ms) row e (λ code is_code e1.
    of_ok _ (then.required receivers_in (codes "to") ms) row e1 (λ to is_to e2.
    let read : RouteRow = record { code = code; to = to } in
    let same : read ≡ row = ok_is read row e2 in
    ap (λ o. route_made o (required (receivers ps) (codes "to") ms)) (text_is (codes "code") ms code is_code)
    ∙ ap (route_made (Some code)) (receivers_at ps (map name_of_row rows) named (codes "to") (get_member (codes "to") ms) to is_to
    (ap (can_be_route rows) same ∙ can))
    ∙ ap (λ r. Some (route_by rows r)) same))

pub route_at : (ps : List Partner) (rows : List PartnerRow) → names_of ps ≡ map name_of_row rows → (d : Data) (row : RouteRow)
    → route_in d ≡ Ok row → can_be_route rows row ≡ true → table_of (route_of ps) d ≡ Some (route_by rows row)
route_at ps rows named (table ms) row e can =
    route_is ps rows ms row named (known_is (least_unknown route_keys ms) (old_route ms) row e) can
route_at ps rows named (string s) row e can = let no : Err (wrong_kind (codes "route")) ≡ Ok row = e in cc
route_at ps rows named (integer z) row e can = let no : Err (wrong_kind (codes "route")) ≡ Ok row = e in cc
route_at ps rows named (float x) row e can = let no : Err (wrong_kind (codes "route")) ≡ Ok row = e in cc
route_at ps rows named (boolean b) row e can = let no : Err (wrong_kind (codes "route")) ≡ Ok row = e in cc
route_at ps rows named (datetime t) row e can = let no : Err (wrong_kind (codes "route")) ≡ Ok row = e in cc
route_at ps rows named (array ds) row e can = let no : Err (wrong_kind (codes "route")) ≡ Ok row = e in cc
