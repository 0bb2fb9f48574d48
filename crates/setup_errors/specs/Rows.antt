-- Own: what is said of a partner, a route or a counter, at its place in its list, that a setup is refused by.
use Rattle.std.specs.Prelude.{ℕ, List, [], ◌∷◌, decimal, not, Option, None, Some, if◌then◌else◌, option_map, unwrap_or}
use Rattle.std.specs.List.{find}
use Rattle.std.specs.Option.{option_or}
use Rattle.hub_kinds.specs.Words.{contains_text}
use Rattle.partner_setup.specs.SetupFaults.{is_cap, is_counter}
use Rattle.partner_setup.specs.declared.rows.CounterRow.{CounterRow}
use Rattle.partner_setup.specs.declared.rows.PartnerRow.{PartnerRow}
use Rattle.partner_setup.specs.declared.rows.RouteRow.{RouteRow}
use Rattle.setup_errors.specs.Ids.{code_cause}
use Rattle.setup_errors.specs.Named.{counter_name, next_named, next_sender, partner_name, route_name}
use Rattle.setup_errors.specs.Sentences.{filled}
use Rattle.setup_errors.specs.declared.kept_rows.KeptRows.{KeptRows}
use Rattle.setup_errors.specs.declared.words.TheConstants as say

-- the later row that has the same, by its number from 1 on
abbrev pub next_cause : (sentence : List ℕ) → (next : Option ℕ) → Option (List ℕ)
next_cause sentence next = option_map (λ n. filled sentence (decimal n ∷ [])) next

-- the name that is wrong
abbrev pub name_cause : (sentence : List ℕ) → (name : Option (List ℕ)) → Option (List ℕ)
name_cause sentence name = option_map (λ n. filled sentence (n ∷ [])) name

-- X12.5: a qualifier and an id represent one partner
abbrev pub sender_cause : PartnerRow → (next : Option ℕ) → Option (List ℕ)
sender_cause p next = option_map (λ n. filled say.SAME_SENDER.now (decimal n ∷ p.qualifier ∷ p.id ∷ [])) next

-- a later partner has its name, or else its qualifier and id
abbrev pub same_cause : List PartnerRow → (place : ℕ) → PartnerRow → Option (List ℕ)
same_cause partners place p =
    option_or (next_cause say.SAME_NAME.now (next_named partner_name partners place p.name))
    (sender_cause p (next_sender partners place p.qualifier p.id))

abbrev pub cap_cause : PartnerRow → Option (List ℕ)
cap_cause p = if is_cap p.cap then None else Some (filled say.CAP.now (decimal p.cap ∷ []))

-- the first text that isn't one of a list
abbrev pub first_unlisted : (listed texts : List (List ℕ)) → Option (List ℕ)
first_unlisted listed texts = find (λ t. not (contains_text listed t)) texts

abbrev pub guides_cause : (guides : List (List ℕ)) → PartnerRow → Option (List ℕ)
guides_cause guides p = Some (unwrap_or (name_cause say.NOT_GIVEN.now (first_unlisted guides p.guides)) say.SAME_SETS.now)

-- the first text that is again later
abbrev pub first_again : List (List ℕ) → Option (List ℕ)
first_again [] = None
first_again (t ∷ ts) = if contains_text ts t then Some t else first_again ts

-- a receiver that isn't a partner, by the partners' names
abbrev pub unknown_cause : (names : List (List ℕ)) → RouteRow → Option (List ℕ)
unknown_cause names r = name_cause say.NO_PARTNER.now (first_unlisted names r.to)

abbrev pub again_cause : RouteRow → Option (List ℕ)
again_cause r = name_cause say.TWICE.now (first_again r.to)

-- X12.6, application codes: the first of its code, its receivers by the partners' names, and a later route with its code
abbrev pub route_cause : KeptRows → (names : List (List ℕ)) → (place : ℕ) → RouteRow → Option (List ℕ)
route_cause kept names place r =
    option_or (code_cause r.code) (option_or (unknown_cause names r)
    (option_or (again_cause r) (next_cause say.SAME_CODE.now (next_named route_name kept.rows.routes place r.code))))

abbrev pub number_cause : (key : List ℕ) → ℕ → Option (List ℕ)
number_cause key n = if is_counter n then None else Some (filled say.COUNTER.now (key ∷ decimal n ∷ []))

abbrev pub counted_cause : KeptRows → (names : List (List ℕ)) → (place : ℕ) → CounterRow → Option (List ℕ)
counted_cause kept names place c =
    if contains_text names c.partner
    then next_cause say.SAME_PARTNER.now (next_named counter_name kept.counters place c.partner)
    else Some (filled say.NO_PARTNER.now (c.partner ∷ []))

-- X12.5, X12.6, control numbers: the first that can't be; else what is wrong with the partner
abbrev pub counter_cause : KeptRows → (names : List (List ℕ)) → (place : ℕ) → CounterRow → Option (List ℕ)
counter_cause kept names place c =
    option_or (number_cause say.INTERCHANGE.now c.counters.interchange) (option_or (number_cause say.GROUP.now c.counters.group)
    (option_or (number_cause say.SET.now c.counters.set) (counted_cause kept names place c)))
