-- The report of a night (own), line by line: each interchange (X12.5), each of its groups (X12.6), each set that is held.
use Rattle.std.specs.Prelude.{ℕ, ◌+◌, Bool, not, List, [], ◌∷◌, ◌++◌, Option, Some, None, if◌then◌else◌}
use Rattle.std.specs.Prelude.{filter, length, codes, sum_by, count_by, slice_get}
use Rattle.std.specs.List.{flat_map}
use Rattle.x12_segs.specs.Words.{element_of}
use Rattle.env_index.specs.Words.{GroupEntry}
use Rattle.hub_kinds.specs.Words.{acknowledgment_code}
use Rattle.partner_setup.specs.declared.partner.Partner.{Partner}
use Rattle.partner_setup.specs.Setup.{SetupValue}
use Rattle.mailbox.specs.declared.outcome.Outcome.{Outcome}
use Rattle.mailbox.specs.declared.outcome.Outcome.TheVariants.{DeliveredTo, HeldForDelimiter, HeldForRoute}
use Rattle.answered_sets.specs.declared.standing.GroupStanding.{GroupStanding}
use Rattle.mailbox.specs.Deliveries.{outcomes, is_held}
use Rattle.answered_sets.specs.Answered.{ta1_note}
use Rattle.answered_sets.specs.Judged.{JudgedValue, PlacedValue, standing_at, is_fa, is_refused, sets_from, all_sets}
use Rattle.night_report.specs.Lines.{control_shown, interchange_line, sent_line, ta1_line, fa_line, answered_line, held_line}
use Rattle.night_report.specs.Lines.{total_line}
use Rattle.night_report.specs.declared.totals.Totals.{Totals}

abbrev pub name_by : Option Partner → List ℕ
name_by None = codes "?"
name_by (Some partner) = partner.name

-- the name of a partner by its place in the setup
abbrev pub partner_name : SetupValue → (place : ℕ) → List ℕ
partner_name setup place = name_by (slice_get setup.partners place)

-- that of a sender; of none where there isn't a partner
abbrev pub sender_name : SetupValue → (sender : Option ℕ) → List ℕ
sender_name setup None = codes "?"
sender_name setup (Some sender) = partner_name setup sender

-- a group with its interchange and its standing
pub record ShownGroup : Type 0 where
  pub interchange : JudgedValue
  pub group : GroupEntry
  pub standing : GroupStanding

-- groups of an interchange, the first of them having this number, counted from 0
abbrev pub shown_from : JudgedValue → ℕ → List GroupEntry → List ShownGroup
shown_from x n [] = []
shown_from x n (group ∷ groups) =
    record { interchange = x; group = group; standing = standing_at x.standings n } ∷ shown_from x (n + 1) groups

-- the groups of an interchange; none of one that is refused
abbrev pub groups_shown : JudgedValue → List ShownGroup
groups_shown x = if is_refused x then [] else shown_from x 0 x.interchange.content.groups

abbrev pub placed_sets_in : ShownGroup → List PlacedValue
placed_sets_in g = sets_from g.interchange g.group g.standing 0 g.group.sets

-- a group of acknowledgments, or one that is answered
abbrev pub group_line : GroupEntry → GroupStanding → List ℕ
group_line group standing =
    if is_fa group then fa_line (element_of group.header 6) (length group.sets)
    else answered_line (element_of group.header 1) (element_of group.header 6) standing.verdict (length group.sets)
    standing.accepted

-- the outcome of set number so and so of a group, counted from 1, for a receiver: nothing is reported of one that is delivered; what is
-- held for a delimiter names the receiver
abbrev pub outcome_line : SetupValue → (ordinal : ℕ) → Outcome → List ℕ
outcome_line setup ordinal (DeliveredTo to) = []
outcome_line setup ordinal (HeldForDelimiter to) = held_line ordinal (codes "delimiter" ∷ partner_name setup to ∷ [])
outcome_line setup ordinal HeldForRoute = held_line ordinal (codes "route" ∷ [])

abbrev pub held_lines : SetupValue → PlacedValue → List ℕ
held_lines setup p = flat_map (outcome_line setup (p.index + 1)) (outcomes setup p)

-- a group, and after it its sets that are held
abbrev pub group_lines : SetupValue → ShownGroup → List ℕ
group_lines setup g = group_line g.group g.standing ++ flat_map (held_lines setup) (placed_sets_in g)

-- its received TA1 and its groups, where an interchange isn't refused
abbrev pub content_lines : SetupValue → JudgedValue → List ℕ
content_lines setup x =
    if is_refused x then [] else ta1_line x.interchange.content.ta1s ++ flat_map (group_lines setup) (groups_shown x)

-- interchange n of the text, counted from 1, where the text that it is read in begins at this offset
abbrev pub first_line : SetupValue → (base n : ℕ) → JudgedValue → List ℕ
first_line setup base n x =
    interchange_line n (base + x.interchange.start) (sender_name setup x.sender) (control_shown x.interchange.header) x.fault

-- the TA1 with this note that it is answered with
abbrev pub answer_line : (note : Option (List ℕ)) → List ℕ
answer_line None = []
answer_line (Some note) = sent_line (acknowledgment_code note) note

abbrev pub interchange_lines : SetupValue → (base n : ℕ) → JudgedValue → List ℕ
interchange_lines setup base n x =
    first_line setup base n x ++ answer_line (ta1_note x.sender x.fault x.interchange) ++ content_lines setup x

abbrev pub all_lines : SetupValue → (base n : ℕ) → List JudgedValue → List ℕ
all_lines setup base n [] = []
all_lines setup base n (x ∷ xs) = interchange_lines setup base n x ++ all_lines setup base (n + 1) xs

abbrev pub is_counted : ShownGroup → Bool
is_counted g = not (is_fa g.group)

-- the groups that are counted: those that aren't FA, of interchanges that aren't refused
abbrev pub counted_groups : List JudgedValue → List ShownGroup
counted_groups xs = filter is_counted (flat_map groups_shown xs)

abbrev pub set_count : ShownGroup → ℕ
set_count g = length g.group.sets

abbrev pub accepted_count : ShownGroup → ℕ
accepted_count g = g.standing.accepted

-- how often a set is held
abbrev pub held_count : SetupValue → PlacedValue → ℕ
held_count setup p = count_by is_held (outcomes setup p)

abbrev pub report_totals : SetupValue → List JudgedValue → Totals
report_totals setup xs = record {
  interchanges = length xs;
  refused = count_by is_refused xs;
  groups = length (counted_groups xs);
  sets = sum_by set_count (counted_groups xs);
  accepted = sum_by accepted_count (counted_groups xs);
  held = sum_by (held_count setup) (all_sets xs);
}

-- the report: what is known of the interchanges of a text, front to back, and how many bytes are outside of them
abbrev pub report_text : SetupValue → List JudgedValue → (outside : ℕ) → List ℕ
report_text setup xs outside = all_lines setup 0 1 xs ++ total_line (report_totals setup xs) outside
