-- Own: what is said of each row of a setup or of counters that can't be, looked at by itself; of a route beside the partners' names.
use Rattle.std.specs.Prelude.{ℕ, ◌+◌, List, [], ◌∷◌, ◌++◌, map}
use Rattle.partner_setup.specs.declared.rows.CounterRow.{CounterRow}
use Rattle.partner_setup.specs.declared.rows.PartnerRow.{PartnerRow}
use Rattle.partner_setup.specs.declared.rows.RouteRow.{RouteRow}
use Rattle.partner_setup.specs.declared.rows.SetupRows.{SetupRows}
use Rattle.setup_errors.specs.Delimiters.{delimiters_cause}
use Rattle.setup_errors.specs.Ids.{code_cause, hub_cause, partner_cause}
use Rattle.setup_errors.specs.Named.{partner_name}
use Rattle.setup_errors.specs.Rows.{again_cause, cap_cause, number_cause, unknown_cause}
use Rattle.setup_errors.specs.Sentences.{in_place, told_at}
use Rattle.setup_errors.specs.declared.words.TheConstants as say

-- its delimiters, its ids, its cap
abbrev pub partner_lines : (place : List ℕ) → PartnerRow → List (List ℕ)
partner_lines place p = told_at place (delimiters_cause p) ++ (told_at place (partner_cause p) ++ told_at place (cap_cause p))

unfoldable pub partner_said : (number : ℕ) → PartnerRow → List (List ℕ)
partner_said number p = partner_lines (in_place say.PARTNER.now number p.name) p

abbrev pub partners_said : (number : ℕ) → List PartnerRow → List (List ℕ)
partners_said number [] = []
partners_said number (p ∷ ps) = partner_said number p ++ partners_said (number + 1) ps

-- its code, a receiver that isn't a partner, one that is named twice
abbrev pub route_lines : (place : List ℕ) → (names : List (List ℕ)) → RouteRow → List (List ℕ)
route_lines place names r =
    told_at place (code_cause r.code) ++ (told_at place (unknown_cause names r) ++ told_at place (again_cause r))

unfoldable pub route_said : (names : List (List ℕ)) → (number : ℕ) → RouteRow → List (List ℕ)
route_said names number r = route_lines (in_place say.ROUTE.now number r.code) names r

abbrev pub routes_said : (names : List (List ℕ)) → (number : ℕ) → List RouteRow → List (List ℕ)
routes_said names number [] = []
routes_said names number (r ∷ rs) = route_said names number r ++ routes_said names (number + 1) rs

-- the hub, the partners, the routes
abbrev pub setup_said : SetupRows → List (List ℕ)
setup_said rows =
    told_at say.HUB.now (hub_cause rows.hub)
    ++ (partners_said 1 rows.partners ++ routes_said (map partner_name rows.partners) 1 rows.routes)

-- its numbers that can't be
abbrev pub counter_lines : (place : List ℕ) → CounterRow → List (List ℕ)
counter_lines place c =
    told_at place (number_cause say.INTERCHANGE.now c.counters.interchange)
    ++ (told_at place (number_cause say.GROUP.now c.counters.group) ++ told_at place (number_cause say.SET.now c.counters.set))

unfoldable pub counter_said : (number : ℕ) → CounterRow → List (List ℕ)
counter_said number c = counter_lines (in_place say.COUNTER_ROW.now number c.partner) c

abbrev pub counters_said : (number : ℕ) → List CounterRow → List (List ℕ)
counters_said number [] = []
counters_said number (c ∷ cs) = counter_said number c ++ counters_said (number + 1) cs
