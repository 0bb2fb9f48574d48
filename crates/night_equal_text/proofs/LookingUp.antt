-- Senders, routes and guides are looked up alike.
use Rattle.std.proofs.Common.{◌≡◌, ℕ, List, [], ◌∷◌, map, Bool, true, false, ◌&&◌, cond, Option, Some, None, refl, ap, ◌∙◌}
use Rattle.std.specs.Prelude.{option_map, find, filter_map, slice_get, bytes_eq}
use Rattle.std.specs.List.{cons_option}
use Rattle.std.specs.Option.{option_map_or}
use Rattle.std.proofs.lemmas.Option.{slice_get-map}
use Rattle.x12_segs.specs.Words.{SegValue, element_of}
use Rattle.guide_tree.specs.Tree.{GuideTree}
use Rattle.guide_tree.specs.View as rows
use Rattle.guide_tree.specs.declared.rows.GuideRows.{GuideRows}
use Rattle.partner_setup.specs.declared.partner.Partner.{Partner}
use Rattle.partner_setup.specs.declared.partner.Route.{Route}
use Rattle.partner_setup.specs.Names.{and_some, those_at}
use Rattle.partner_setup.specs.Setup.{SetupValue}
use Rattle.partner_setup.specs.Setup as then
use Rattle.night_definition.specs.Setup.{sender_of, route_of, guides_of, guide_of}
use Rattle.night_equal_text.specs.Seen.{seen}
use Rattle.night_equal_text.specs.LookedUp.{seen_setup}

pub senders_are_one : (setup : SetupValue) (header : List ℕ) → sender_of (seen_setup setup) header ≡ then.sender_of setup header
senders_are_one setup header = refl

first_route : (routes : List Route) (code : List ℕ)
    → option_map_or (λ r. r.to) (find (λ (r : Route). bytes_eq r.code code) routes) [] ≡ then.targets_in routes code
first_route [] code = refl
first_route (r ∷ routes) code = by (bytes_eq r.code code) (first_route routes code)
  where
    by : (b : Bool) → option_map_or (λ r. r.to) (find (λ (r : Route). bytes_eq r.code code) routes) [] ≡ then.targets_in routes code
        → option_map_or (λ (r : Route). r.to) (cond b (Some r) (find (λ (r : Route). bytes_eq r.code code) routes)) []
        ≡ cond b r.to (then.targets_in routes code)
    by true more = refl
    by false more = more

pub routes_are_one : (setup : SetupValue) (gs03 : List ℕ) → route_of (seen_setup setup) gs03 ≡ then.route_of setup gs03
routes_are_one setup gs03 = first_route setup.routes gs03

at_places : (guides : List GuideRows) (places : List ℕ)
    → filter_map (slice_get (map rows.guide_of guides)) places ≡ map rows.guide_of (those_at guides places)
at_places guides [] = refl
at_places guides (place ∷ places) =
    ap (λ g. cons_option g (filter_map (slice_get (map rows.guide_of guides)) places)) (slice_get-map rows.guide_of guides place)
    ∙ ap (cons_option (option_map rows.guide_of (slice_get guides place))) (at_places guides places)
    ∙ by (slice_get guides place)
  where
    by : (g : Option GuideRows) → cons_option (option_map rows.guide_of g) (map rows.guide_of (those_at guides places))
        ≡ map rows.guide_of (and_some g (those_at guides places))
    by None = refl
    by (Some g) = refl

pub guides_of_partner : (setup : SetupValue) (partner : ℕ)
    → guides_of (seen_setup setup) partner ≡ map rows.guide_of (then.guides_of setup partner)
guides_of_partner setup partner = by (slice_get setup.partners partner)
  where
    by : (p : Option Partner)
        → option_map_or (λ (p : Partner). filter_map (slice_get (map rows.guide_of setup.guides)) p.guides) p []
        ≡ map rows.guide_of (those_at setup.guides (option_map_or (λ (p : Partner). p.guides) p []))
    by None = refl
    by (Some p) = at_places setup.guides p.guides

associated : (a b c : Bool) → (a && (b && c)) ≡ ((a && b) && c)
associated true b c = refl
associated false b c = refl

first_guide : (guides : List GuideRows) (group version set : List ℕ)
    → find (λ (g : GuideTree). bytes_eq g.head.group group && bytes_eq g.head.version version && bytes_eq g.head.set set)
    (map rows.guide_of guides)
    ≡ option_map rows.guide_of (find (then.is_for_set group version set) guides)
first_guide [] group version set = refl
first_guide (g ∷ guides) group version set =
    let asks : GuideTree → Bool = λ (g : GuideTree). bytes_eq g.head.group group && bytes_eq g.head.version version
    && bytes_eq g.head.set set in
    ap (cond (asks (rows.guide_of g)) (Some (rows.guide_of g))) (first_guide guides group version set)
    ∙ by (asks (rows.guide_of g)) (then.is_for_set group version set g) refl
  where
    by : (a b : Bool) → a ≡ b
        → cond a (Some (rows.guide_of g)) (option_map rows.guide_of (find (then.is_for_set group version set) guides))
        ≡ option_map rows.guide_of (cond b (Some g) (find (then.is_for_set group version set) guides))
    by true true is = refl
    by false false is = refl
    by true false is = cc
    by false true is = cc

pub guides_are_one : (setup : SetupValue) (partner : ℕ) (gs : SegValue) (st01 : List ℕ)
    → guide_of (seen_setup setup) partner (seen gs).elements st01
    ≡ option_map rows.guide_of (then.guide_for_set setup partner (element_of gs 1) (element_of gs 8) st01)
guides_are_one setup partner gs st01 =
    ap (find (λ (g : GuideTree). bytes_eq g.head.group (element_of gs 1) && bytes_eq g.head.version (element_of gs 8)
    && bytes_eq g.head.set st01)) (guides_of_partner setup partner)
    ∙ first_guide (then.guides_of setup partner) (element_of gs 1) (element_of gs 8) st01
