-- own: the report of a night.
use Rattle.std.specs.Prelude.{ℕ, ◌==◌, Bool, true, false, not, List, [], ◌∷◌, ◌++◌, length, Option, Some, if◌then◌else◌}
use Rattle.std.specs.Prelude.{codes, decimal, filter, flat_map, slice_get, is_some, count_by, sum_by}
use Rattle.std.specs.Option.{option_map_or}
use Rattle.partner_setup.specs.declared.partner.Partner.{Partner}
use Rattle.night_definition.specs.Header.{field}
use Rattle.night_definition.specs.Segments.{element}
use Rattle.night_definition.specs.Elements.{numbered}
use Rattle.night_definition.specs.Codes.{fault_texts, group_verdict_text}
use Rattle.night_definition.specs.Setup.{Setup, control_number}
use Rattle.night_definition.specs.Answers.{AnsweredGroup, Answered, accepted_sets}
use Rattle.night_definition.specs.Acknowledgments.{ta1_note, ta1_code}
use Rattle.night_definition.specs.Deliveries.{Outcome, delivered, held_for_delimiter, held_for_route, outcomes, sent}

-- words with a space between them, and LF
abbrev pub line : List (List ℕ) → List ℕ
line [] = 10 ∷ []
line (word ∷ words) = word ++ flat_map (λ w. 32 ∷ w) words ++ 10 ∷ []

abbrev pub name_of : Setup → Option ℕ → List ℕ
name_of setup partner = option_map_or (λ n. option_map_or (λ (p : Partner). p.name) (slice_get setup.partners n) (codes "?")) partner
    (codes "?")

abbrev pub interchange_line : Setup → ℕ → Answered → List ℕ
interchange_line setup n x =
    let isa = x.judged.interchange.header in
    line (codes "interchange" ∷ decimal n ∷ codes "at" ∷ decimal x.judged.interchange.start
    ∷ codes "from" ∷ name_of setup x.judged.sender
    ∷ codes "control" ∷ (if is_some (control_number isa) then field 13 isa else codes "?")
    ∷ option_map_or (λ f. codes "refused" ∷ (fault_texts f).0 ∷ []) x.judged.fault (codes "accepted" ∷ []))

abbrev pub held_line : Setup → (ordinal : ℕ) → Outcome → List ℕ
held_line setup n (delivered to) = []
held_line setup n (held_for_delimiter to) = line (codes "held" ∷ codes "set" ∷ decimal n ∷ codes "delimiter" ∷ name_of setup (Some to)
    ∷ [])
held_line setup n held_for_route = line (codes "held" ∷ codes "set" ∷ decimal n ∷ codes "route" ∷ [])

abbrev pub group_lines : Setup → Answered → AnsweredGroup → List ℕ
group_lines setup x g =
    let gs = g.group.header.elements in
    let sets = decimal (length g.answers) in
    (if g.is_fa
    then line (codes "group" ∷ codes "FA" ∷ element 6 gs ∷ codes "listed" ∷ codes "sets" ∷ sets ∷ [])
    else line (codes "group" ∷ element 1 gs ∷ element 6 gs ∷ group_verdict_text g.verdict ∷ codes "sets" ∷ sets
    ∷ codes "accepted" ∷ decimal (accepted_sets g) ∷ []))
    ++ flat_map (λ a. flat_map (held_line setup a.0) (outcomes setup g (sent x g a.1))) (numbered 1 g.answers)

abbrev pub interchange_lines : Setup → ℕ → Answered → List ℕ
interchange_lines setup n x =
    interchange_line setup n x
    ++ option_map_or (λ note. line (codes "ta1" ∷ codes "sent" ∷ ta1_code note ∷ note ∷ [])) (ta1_note x.judged) []
    ++ (if is_some x.judged.fault then []
    else (if x.judged.interchange.content.ta1s == 0 then [] else line (codes "ta1" ∷ decimal x.judged.interchange.content.ta1s ∷ []))
    ++ flat_map (group_lines setup x) x.groups)

abbrev pub is_held : Outcome → Bool
is_held (delivered to) = false
is_held outcome = true

abbrev pub held_in : Setup → Answered → AnsweredGroup → ℕ
held_in setup x g = sum_by (λ a. count_by is_held (outcomes setup g (sent x g a))) g.answers

-- the groups and sets that count are those of interchanges that aren't refused, without FA
abbrev pub total_line : Setup → List Answered → (outside : ℕ) → List ℕ
total_line setup xs outside =
    let groups = filter (λ g. not g.is_fa) (flat_map (λ (x : Answered). x.groups) xs) in
    line (codes "total" ∷ codes "interchanges" ∷ decimal (length xs)
    ∷ codes "refused" ∷ decimal (count_by (λ (x : Answered). is_some x.judged.fault) xs)
    ∷ codes "groups" ∷ decimal (length groups)
    ∷ codes "sets" ∷ decimal (sum_by (λ (g : AnsweredGroup). length g.answers) groups)
    ∷ codes "accepted" ∷ decimal (sum_by accepted_sets groups)
    ∷ codes "held" ∷ decimal (sum_by (λ (x : Answered). sum_by (held_in setup x) x.groups) xs)
    ∷ codes "outside" ∷ decimal outside ∷ [])

abbrev pub report_of : Setup → List Answered → (outside : ℕ) → List ℕ
report_of setup xs outside = flat_map (λ x. interchange_lines setup x.0 x.1) (numbered 1 xs) ++ total_line setup xs outside
