-- The setup (own): what is refused of the rows, the counters and the guides that are to make one, and in which order.
use Rattle.std.specs.Prelude.{ℕ, ◌+◌, ◌-◌, ◌==◌, Bool, not, ◌&&◌, ◌||◌, nat_le, min, List, [], ◌∷◌, ◌++◌, length, map, Option, Some, None}
use Rattle.std.specs.Prelude.{is_none, slice_index, if◌then◌else◌, option_map}
use Rattle.std.specs.List.{list_all, list_any, position_from}
use Rattle.std.specs.Option.{option_or}
use Rattle.std.specs.Char.{is_ascii_alphanumeric}
use Rattle.hub_kinds.specs.Words.{has_same_key, has_twice, is_word, contains_text}
use Rattle.hub_kinds.specs.declared.counters.Counters.{Counters}
use Rattle.x12_bytes.specs.declared.delims.Delims.{Delims}
use Rattle.guide_tree.specs.declared.rows.GuideRows.{GuideRows}
use Rattle.partner_setup.specs.Names.{places_of_texts, those_at}
use Rattle.partner_setup.specs.declared.rows.CounterRow.{CounterRow}
use Rattle.partner_setup.specs.declared.rows.PartnerRow.{PartnerRow}
use Rattle.partner_setup.specs.declared.rows.RouteRow.{RouteRow}
use Rattle.partner_setup.specs.declared.rows.SetupRows.{SetupRows}
use Rattle.partner_setup.specs.declared.setup_fault.IdOwner.{IdOwner}
use Rattle.partner_setup.specs.declared.setup_fault.IdOwner.TheVariants as owner
use Rattle.partner_setup.specs.declared.setup_fault.GuidesOwner.{GuidesOwner}
use Rattle.partner_setup.specs.declared.setup_fault.GuidesOwner.TheVariants as guided
use Rattle.partner_setup.specs.declared.setup_fault.SetupFault.{SetupFault}
use Rattle.partner_setup.specs.declared.setup_fault.SetupFault.TheVariants as fault

-- a text after its length, so that what follows can't be taken for a part of it
abbrev pub told : List ℕ → List ℕ → List ℕ
told text behind = length text ∷ (text ++ behind)

-- what up to three texts tell apart
abbrev pub key_of_texts : (first second third : List ℕ) → List ℕ
key_of_texts first second third = told first (told second (told third []))

abbrev pub by_name : (name : List ℕ) → List ℕ
by_name name = key_of_texts name [] []

-- the first row of which something is so, by its place
abbrev pub first_row : {A : Type 0} → (A → Bool) → List A → Option ℕ
first_row test rows = position_from test 0 rows

-- the first row whose key is that of one after it, by its place; the first has this place
abbrev pub twin_from : {A : Type 0} → (A → List ℕ) → ℕ → List A → Option ℕ
twin_from key n [] = None
twin_from key n (x ∷ xs) = if list_any (λ y. has_same_key key y x) xs then Some n else twin_from key (n + 1) xs

abbrev pub first_twin : {A : Type 0} → (A → List ℕ) → List A → Option ℕ
first_twin key rows = twin_from key 0 rows

-- the lesser of two places
abbrev pub lesser_place : Option ℕ → Option ℕ → Option ℕ
lesser_place None b = b
lesser_place (Some m) None = Some m
lesser_place (Some m) (Some n) = Some (min m n)

-- 1: a name given twice, or a qualifier and id given twice
abbrev pub same_partner : List PartnerRow → Option ℕ
same_partner ps = lesser_place (first_twin (λ (p : PartnerRow). by_name p.name) ps)
    (first_twin (λ (p : PartnerRow). key_of_texts p.qualifier p.id []) ps)

-- the bytes that may delimit: 0x1C to 0x1F, and 0x21 to 0x7E but letters, digits, `-`, `.` and `_`; a terminator may be CR or LF too
abbrev pub is_name_byte : ℕ → Bool
is_name_byte b = is_ascii_alphanumeric b || b == 45 || b == 46 || b == 95

abbrev pub may_delimit : ℕ → Bool
may_delimit b = (nat_le 28 b && nat_le b 31) || (nat_le 33 b && nat_le b 126 && not (is_name_byte b))

abbrev pub may_end : ℕ → Bool
may_end b = may_delimit b || b == 13 || b == 10

-- the one byte of a text
abbrev pub byte_of : List ℕ → Option ℕ
byte_of [] = None
byte_of (b ∷ []) = Some b
byte_of (b ∷ c ∷ bs) = None

abbrev pub are_apart : (a b c d : ℕ) → Bool
are_apart a b c d =
    not (a == b) && not (a == c) && not (a == d) && not (b == c) && not (b == d) && not (c == d)

abbrev pub are_delimiters : (element component repetition terminator : ℕ) → Bool
are_delimiters e c r t = may_delimit e && may_delimit c && may_delimit r && may_end t && are_apart e c r t

abbrev pub delims_by : (element component repetition terminator : Option ℕ) → Option Delims
delims_by (Some e) (Some c) (Some r) (Some t) =
    if are_delimiters e c r t
    then Some (record { element = e; component = c; repetition = Some r; terminator = t })
    else None
delims_by _ _ _ _ = None

abbrev pub delims_of : PartnerRow → Option Delims
delims_of p = delims_by (byte_of p.element) (byte_of p.component) (byte_of p.repetition) (byte_of p.terminator)

-- 2: one of the four isn't one byte, two are equal, or one isn't allowed
abbrev pub bad_delimiters : List PartnerRow → Option ℕ
bad_delimiters ps = first_row (λ p. is_none (delims_of p)) ps

-- letters, digits, `-`, `.`, `_` and, inside, spaces
abbrev pub is_outer : ℕ → Bool
is_outer b = is_name_byte b

abbrev pub is_inner : ℕ → Bool
is_inner b = is_name_byte b || b == 32

abbrev pub is_id : (least most : ℕ) → List ℕ → Bool
is_id least most s =
    nat_le least (length s) && nat_le (length s) most && list_all is_inner s
    && is_outer (slice_index s 0) && is_outer (slice_index s (length s - 1))

-- 3: the hub's or a partner's qualifier, id or code, or a partner's name, hasn't its form
abbrev pub are_ids : (qualifier id code : List ℕ) → Bool
are_ids qualifier id code = is_word 2 2 qualifier && is_id 1 15 id && is_id 2 15 code

abbrev pub has_ids : PartnerRow → Bool
has_ids p = is_word 1 20 p.name && are_ids p.qualifier p.id p.code

abbrev pub bad_id : SetupRows → Option IdOwner
bad_id rows = if are_ids rows.hub.qualifier rows.hub.id rows.hub.code
    then option_map owner.Partner (first_row (λ p. not (has_ids p)) rows.partners)
    else Some owner.Hub

abbrev pub guide_name : GuideRows → List ℕ
guide_name g = g.head.name

-- what a guide is for: group, version and set
abbrev pub purpose_key : GuideRows → List ℕ
purpose_key g = key_of_texts g.head.group g.head.version g.head.set

-- the partner's guides are there, and no two of them are for the same
abbrev pub guides_of : List GuideRows → PartnerRow → List GuideRows
guides_of guides p = those_at guides (places_of_texts (map guide_name guides) p.guides)

abbrev pub has_guides : List GuideRows → PartnerRow → Bool
has_guides guides p = list_all (contains_text (map guide_name guides)) p.guides && not (has_twice purpose_key (guides_of guides p))

-- 4: a name that no guide has, two of a partner's guides for the same, or else two guides with one name
abbrev pub bad_guides : List PartnerRow → List GuideRows → Option GuidesOwner
bad_guides ps guides = option_or (option_map guided.Partner (first_row (λ p. not (has_guides guides p)) ps))
    (option_map guided.Guide (first_twin (λ g. by_name (guide_name g)) guides))

abbrev pub name_of_row : PartnerRow → List ℕ
name_of_row p = p.name

-- each target is a partner, and none is named twice
abbrev pub are_targets : List PartnerRow → (names : List (List ℕ)) → Bool
are_targets ps names = list_all (contains_text (map name_of_row ps)) names && not (has_twice by_name names)

-- 5: a target that isn't a partner or is named twice in one list, a code that hasn't its form, or one given twice
abbrev pub is_route : List PartnerRow → RouteRow → Bool
is_route ps r = is_id 2 15 r.code && are_targets ps r.to

abbrev pub bad_route : List PartnerRow → List RouteRow → Option ℕ
bad_route ps routes = lesser_place (first_row (λ r. not (is_route ps r)) routes) (first_twin (λ (r : RouteRow). by_name r.code) routes)

-- 6: a number out of 1 to 999,999,999, a partner that isn't there, or one given twice
abbrev pub is_counter : ℕ → Bool
is_counter n = nat_le 1 n && nat_le n 999999999

abbrev pub are_counters : Counters → Bool
are_counters c = is_counter c.interchange && is_counter c.group && is_counter c.set

abbrev pub counts_for : List PartnerRow → CounterRow → Bool
counts_for ps c = are_counters c.counters && contains_text (map name_of_row ps) c.partner

abbrev pub bad_counter : List PartnerRow → List CounterRow → Option ℕ
bad_counter ps cs = lesser_place (first_row (λ c. not (counts_for ps c)) cs) (first_twin (λ (c : CounterRow). by_name c.partner) cs)

-- 7: a cap out of 1 to 99,999
abbrev pub is_cap : ℕ → Bool
is_cap n = nat_le 1 n && nat_le n 99999

abbrev pub bad_cap : List PartnerRow → Option ℕ
bad_cap ps = first_row (λ p. not (is_cap p.cap)) ps

-- of what speaks of partners by their names, or of a cap
abbrev pub fault_of_names : SetupRows → List CounterRow → Option SetupFault
fault_of_names rows counters =
    option_or (option_map fault.BadRoute (bad_route rows.partners rows.routes))
    (option_or (option_map fault.BadCounter (bad_counter rows.partners counters))
    (option_map fault.BadCap (bad_cap rows.partners)))

-- the first of these, in the order of their numbers
abbrev pub first_fault : SetupRows → List CounterRow → List GuideRows → Option SetupFault
first_fault rows counters guides =
    option_or (option_map fault.SamePartner (same_partner rows.partners))
    (option_or (option_map fault.BadDelimiters (bad_delimiters rows.partners))
    (option_or (option_map fault.BadId (bad_id rows))
    (option_or (option_map fault.BadGuides (bad_guides rows.partners guides))
    (fault_of_names rows counters))))
