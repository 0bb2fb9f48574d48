-- Own: what is said of a setup that is refused.
use Rattle.std.specs.Prelude.{ℕ, ◌+◌, List, ◌++◌, Option, None, Some, map, slice_get, option_and_then, option_map}
use Rattle.partner_setup.specs.declared.setup_fault.IdOwner.{IdOwner}
use Rattle.partner_setup.specs.declared.setup_fault.IdOwner.TheVariants as owner
use Rattle.partner_setup.specs.declared.setup_fault.GuidesOwner.{GuidesOwner}
use Rattle.partner_setup.specs.declared.setup_fault.GuidesOwner.TheVariants as guided
use Rattle.partner_setup.specs.declared.setup_fault.SetupFault.{SetupFault}
use Rattle.partner_setup.specs.declared.setup_fault.SetupFault.TheVariants as fault
use Rattle.setup_errors.specs.Delimiters.{delimiters_cause}
use Rattle.setup_errors.specs.Ids.{hub_cause, partner_cause}
use Rattle.setup_errors.specs.Named.{counter_name, partner_name, route_name}
use Rattle.setup_errors.specs.Rows.{cap_cause, counter_cause, guides_cause, route_cause, same_cause}
use Rattle.setup_errors.specs.Sentences.{in_place, or_nothing}
use Rattle.setup_errors.specs.declared.kept_rows.KeptRows.{KeptRows}
use Rattle.setup_errors.specs.declared.words.TheConstants as say

-- a row by its number, from 1 on, and its name
abbrev pub row_place : {A : Type 0} → (kind : List ℕ) → (name : A → List ℕ) → List A → (place : ℕ) → Option (List ℕ)
row_place kind name rows place = option_map (λ r. in_place kind (place + 1) (name r)) (slice_get rows place)

abbrev pub partner_place : KeptRows → (place : ℕ) → Option (List ℕ)
partner_place kept place = row_place say.PARTNER.now partner_name kept.rows.partners place

-- where the refusal is
abbrev pub place_of : KeptRows → SetupFault → Option (List ℕ)
place_of kept (fault.SamePartner place) = partner_place kept place
place_of kept (fault.BadDelimiters place) = partner_place kept place
place_of kept (fault.BadId owner.Hub) = Some say.HUB.now
place_of kept (fault.BadId (owner.Partner place)) = partner_place kept place
place_of kept (fault.BadGuides (guided.Partner place)) = partner_place kept place
place_of kept (fault.BadGuides (guided.Guide place)) = row_place say.GUIDE.now (λ (name : List ℕ). name) kept.guides place
place_of kept (fault.BadRoute place) = row_place say.ROUTE.now route_name kept.rows.routes place
place_of kept (fault.BadCounter place) = row_place say.COUNTER_ROW.now counter_name kept.counters place
place_of kept (fault.BadCap place) = partner_place kept place
place_of kept fault.NoMemory = None

-- what is wrong with the ids of the hub or a partner
abbrev pub ids_cause : KeptRows → IdOwner → Option (List ℕ)
ids_cause kept owner.Hub = hub_cause kept.rows.hub
ids_cause kept (owner.Partner place) = option_and_then partner_cause (slice_get kept.rows.partners place)

-- what is wrong with a partner's guides, or with a guide
abbrev pub guides_cause_of : KeptRows → GuidesOwner → Option (List ℕ)
guides_cause_of kept (guided.Partner place) = option_and_then (guides_cause kept.guides) (slice_get kept.rows.partners place)
guides_cause_of kept (guided.Guide place) = Some say.LATER_GUIDE.now

-- what is wrong there, by the partners' names
abbrev pub cause_of : KeptRows → (names : List (List ℕ)) → SetupFault → Option (List ℕ)
cause_of kept names (fault.SamePartner place) =
    option_and_then (same_cause kept.rows.partners place) (slice_get kept.rows.partners place)
cause_of kept names (fault.BadDelimiters place) = option_and_then delimiters_cause (slice_get kept.rows.partners place)
cause_of kept names (fault.BadId owner) = ids_cause kept owner
cause_of kept names (fault.BadGuides owner) = guides_cause_of kept owner
cause_of kept names (fault.BadRoute place) = option_and_then (route_cause kept names place) (slice_get kept.rows.routes place)
cause_of kept names (fault.BadCounter place) = option_and_then (counter_cause kept names place) (slice_get kept.counters place)
cause_of kept names (fault.BadCap place) = option_and_then cap_cause (slice_get kept.rows.partners place)
cause_of kept names fault.NoMemory = Some say.NO_MEMORY.now

abbrev pub setup_words : KeptRows → SetupFault → List ℕ
setup_words kept why =
    or_nothing (place_of kept why) ++ or_nothing (cause_of kept (map partner_name kept.rows.partners) why)
