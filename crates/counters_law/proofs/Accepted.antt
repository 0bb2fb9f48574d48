-- A setup of which nothing is refused takes a row of counters for each of its partners.
use Rattle.std.proofs.Common.{◌≡◌, ℕ, Bool, true, false, ◌||◌, not, List, [], ◌∷◌, map, Option, None, Some}
use Rattle.std.proofs.Common.{option_map}
use Rattle.std.proofs.Common.{arith, ap, cond, eq-eqb, refl, ◌+◌}
use Rattle.std.specs.Prelude.{All}
use Rattle.std.proofs.lemmas.Bool.{and_parts}
use Rattle.std.proofs.lemmas.List.Elements.{All-head, All-tail}
use Rattle.std.proofs.lemmas.Bool.Decides.{nat_tests}
use Rattle.std.specs.List.{list_any, position_from}
use Rattle.std.specs.Option.{option_or}
use Rattle.std.specs.Str.{bytes_eq}
use Rattle.guide_tree.specs.declared.rows.GuideRows.{GuideRows}
use Rattle.hub_kinds.specs.Words.{contains_text, has_same_key}
use Rattle.hub_kinds.specs.declared.counters.Counters.{Counters}
use Rattle.partner_setup.specs.Setup.{partner_of}
use Rattle.partner_setup.specs.SetupFaults.{bad_counter, bad_delimiters, bad_guides, bad_id, by_name, counts_for}
use Rattle.partner_setup.specs.SetupFaults.{fault_of_names}
use Rattle.partner_setup.specs.SetupFaults.{are_counters, are_ids, first_fault, first_row, first_twin, has_ids, lesser_place, name_of_row}
use Rattle.partner_setup.specs.SetupFaults.{same_partner, twin_from}
use Rattle.partner_setup.specs.Sound.{AreCounters}
use Rattle.partner_setup.specs.declared.rows.CounterRow.{CounterRow}
use Rattle.partner_setup.specs.declared.rows.PartnerRow.{PartnerRow}
use Rattle.partner_setup.specs.declared.rows.SetupRows.{SetupRows}
use Rattle.partner_setup.specs.declared.setup_fault.IdOwner.TheVariants as owner
use Rattle.partner_setup.specs.declared.setup_fault.SetupFault.TheVariants as fault
use Rattle.counters_law.specs.GoingOn.{rows_of}
use Rattle.counters_law.proofs.Telling.{ArePlain}

-- the rows by the names of the rows of partners
abbrev pub named : List PartnerRow → List Counters → List CounterRow
named [] next = []
named (p ∷ ps) [] = []
named (p ∷ ps) (c ∷ next) = record { partner = p.name; counters = c } ∷ named ps next

pub same_rows : (counters : List CounterRow) (guides : List GuideRows) (ps : List PartnerRow) (next : List Counters)
    → rows_of (map (partner_of counters guides) ps) next ≡ named ps next
same_rows counters guides [] next = refl
same_rows counters guides (p ∷ ps) [] = refl
same_rows counters guides (p ∷ ps) (c ∷ next) =
    ap (λ (rs : List CounterRow). record { partner = p.name; counters = c } ∷ rs) (same_rows counters guides ps next)

pub in_range : (c : Counters) → AreCounters c → are_counters c ≡ true
in_range c h = grind (arith, nat_tests)

or_parts : {A : Type 0} (a b : Option A) → option_or a b ≡ None → (a ≡ None) × (b ≡ None)
or_parts None b e = (refl, e)
or_parts (Some x) b e = cc

map_none : {A B : Type 0} (f : A → B) (a : Option A) → option_map f a ≡ None → a ≡ None
map_none f None e = refl
map_none f (Some x) e = cc

lesser_parts : (a b : Option ℕ) → lesser_place a b ≡ None → (a ≡ None) × (b ≡ None)
lesser_parts None b e = (refl, e)
lesser_parts (Some m) None e = cc
lesser_parts (Some m) (Some n) e = cc

or_join : {A : Type 0} (a b : Option A) → a ≡ None → b ≡ None → option_or a b ≡ None
or_join None b e f = f
or_join (Some x) b e f = cc

or_no : (a b : Bool) → (a || b) ≡ false → (a ≡ false) × (b ≡ false)
or_no true b e = cc
or_no false b e = (refl, e)

if_none : {A : Type 0} (b : Bool) (x : A) (o : Option A) → cond b (Some x) o ≡ None → (b ≡ false) × (o ≡ None)
if_none true x o e = cc
if_none false x o e = (refl, e)

else_none : {A : Type 0} (b : Bool) (x : A) (o : Option A) → cond b o (Some x) ≡ None → o ≡ None
else_none true x o e = e
else_none false x o e = cc

no_name : (p : PartnerRow) (c : Counters) (ps : List PartnerRow) (next : List Counters)
    → list_any (λ (y : PartnerRow). has_same_key (λ (q : PartnerRow). by_name q.name) y p) ps ≡ false
    → list_any (λ (y : CounterRow). has_same_key (λ (r : CounterRow). by_name r.partner) y (record { partner = p.name; counters = c }))
    (named ps next) ≡ false
no_name p c [] next none = refl
no_name p c (q ∷ ps) [] none = refl
no_name p c (q ∷ ps) (d ∷ next) none =
    let parts = or_no (has_same_key (λ (q : PartnerRow). by_name q.name) q p)
    (list_any (λ (y : PartnerRow). has_same_key (λ (q : PartnerRow). by_name q.name) y p) ps) none in
    rw (parts.0) (no_name p c ps next parts.1)

no_twin : (n : ℕ) (ps : List PartnerRow) (next : List Counters) → twin_from (λ (q : PartnerRow). by_name q.name) n ps ≡ None
    → twin_from (λ (r : CounterRow). by_name r.partner) n (named ps next) ≡ None
no_twin n [] next none = refl
no_twin n (p ∷ ps) [] none = refl
no_twin n (p ∷ ps) (c ∷ next) none =
    let parts = if_none (list_any (λ (y : PartnerRow). has_same_key (λ (q : PartnerRow). by_name q.name) y p) ps) n
    (twin_from (λ (q : PartnerRow). by_name q.name) (n + 1) ps) none in
    rw (no_name p c ps next parts.0) (no_twin (n + 1) ps next parts.1)

-- each of the partners is one of all
abbrev AreAmong : (all ps : List PartnerRow) → Type 0
AreAmong all [] = Unit {0}
AreAmong all (p ∷ ps) = (contains_text (map name_of_row all) p.name ≡ true) × AreAmong all ps

or_yes : (a b : Bool) → b ≡ true → (a || b) ≡ true
or_yes true b e = refl
or_yes false b e = e

same_bytes : (s : List ℕ) → bytes_eq s s ≡ true
same_bytes [] = refl
same_bytes (c ∷ s) = rw (eq-eqb c c refl) (same_bytes s)

among : (all ps : List PartnerRow)
    → ((name : List ℕ) → contains_text (map name_of_row ps) name ≡ true → contains_text (map name_of_row all) name ≡ true)
    → AreAmong all ps
among all [] within = tt
among all (p ∷ ps) within = (
  within p.name (rw (same_bytes p.name) refl),
  among all ps (λ name h. within name (or_yes (bytes_eq p.name name) (contains_text (map name_of_row ps) name) h)),
)

counted : (all ps : List PartnerRow) (next : List Counters) (i : ℕ) → AreAmong all ps → All AreCounters next
    → position_from (λ (r : CounterRow). not (counts_for all r)) i (named ps next) ≡ None
counted all [] next i known ranges = refl
counted all (p ∷ ps) [] i known ranges = refl
counted all (p ∷ ps) (c ∷ next) i known ranges =
    rw (in_range c (All-head AreCounters c next ranges), known.0)
    (counted all ps next (i + 1) known.1 (All-tail AreCounters c next ranges))

-- none of the rows is refused
no_bad_counter : (ps : List PartnerRow) (next : List Counters) → All AreCounters next → same_partner ps ≡ None
    → bad_counter ps (named ps next) ≡ None
no_bad_counter ps next ranges apart =
    let rows = counted ps ps next 0 (among ps ps (λ name h. h)) ranges in
    let names = lesser_parts (first_twin (λ (p : PartnerRow). by_name p.name) ps) _ apart in
    rw (rows) (no_twin 0 ps next names.0)

still_named : (rows : SetupRows) (counters : List CounterRow) (next : List Counters) → All AreCounters next
    → same_partner rows.partners ≡ None → fault_of_names rows counters ≡ None → fault_of_names rows (named rows.partners next) ≡ None
still_named rows counters next ranges apart none =
    let routes = or_parts _ _ none in
    let caps = or_parts _ _ routes.1 in
    or_join _ _ routes.0 (or_join _ _ (ap (option_map _) (no_bad_counter rows.partners next ranges apart)) caps.1)

five_none : {A : Type 0} (a b c d e : Option A) → option_or a (option_or b (option_or c (option_or d e))) ≡ None
    → (a ≡ None) × (b ≡ None) × (c ≡ None) × (d ≡ None) × (e ≡ None)
five_none a b c d e none =
    let p = or_parts a (option_or b (option_or c (option_or d e))) none in
    let q = or_parts b (option_or c (option_or d e)) p.1 in
    let r = or_parts c (option_or d e) q.1 in
    let s = or_parts d e r.1 in
    (p.0, q.0, r.0, s.0, s.1)

abbrev NoneOf : SetupRows → List CounterRow → List GuideRows → Type 0
NoneOf rows counters guides =
    (option_map fault.SamePartner (same_partner rows.partners) ≡ None)
    × (option_map fault.BadDelimiters (bad_delimiters rows.partners) ≡ None)
    × (option_map fault.BadId (bad_id rows) ≡ None) × (option_map fault.BadGuides (bad_guides rows.partners guides) ≡ None)
    × (fault_of_names rows counters ≡ None)

none_of : (rows : SetupRows) (counters : List CounterRow) (guides : List GuideRows) → first_fault rows counters guides ≡ None
    → NoneOf rows counters guides
none_of rows counters guides none =
    five_none (option_map fault.SamePartner (same_partner rows.partners)) (option_map fault.BadDelimiters (bad_delimiters rows.partners))
    (option_map fault.BadId (bad_id rows)) (option_map fault.BadGuides (bad_guides rows.partners guides)) (fault_of_names rows counters)
    none

pub no_fault : (rows : SetupRows) (counters : List CounterRow) (guides : List GuideRows) (next : List Counters)
    → first_fault rows counters guides ≡ None → All AreCounters next → first_fault rows (named rows.partners next) guides ≡ None
no_fault rows counters guides next none ranges =
    let p = none_of rows counters guides none in
    rw (p.0, p.1, p.2, p.3)
    (still_named rows counters next ranges (map_none fault.SamePartner (same_partner rows.partners) p.0) p.4)

not_no : (b : Bool) → not b ≡ false → b ≡ true
not_no true e = refl
not_no false e = cc

plain_rows : (ps : List PartnerRow) (next : List Counters) (i : ℕ) → position_from (λ p. not (has_ids p)) i ps ≡ None
    → All AreCounters next → ArePlain (named ps next)
plain_rows [] next i none ranges = tt
plain_rows (p ∷ ps) [] i none ranges = tt
plain_rows (p ∷ ps) (c ∷ next) i none ranges =
    let parts = if_none (not (has_ids p)) i (position_from (λ p. not (has_ids p)) (i + 1) ps) none in
    let ids : has_ids p ≡ true = not_no (has_ids p) parts.0 in
    let word = and_parts _ _ ids in
    let letters = and_parts _ _ word.0 in (
      record { name = letters.1; counters = All-head AreCounters c next ranges },
      plain_rows ps next (i + 1) parts.1 (All-tail AreCounters c next ranges),
    )

-- and all of them are plain
pub plain : (rows : SetupRows) (counters : List CounterRow) (guides : List GuideRows) (next : List Counters)
    → first_fault rows counters guides ≡ None → All AreCounters next → ArePlain (named rows.partners next)
plain rows counters guides next none ranges =
    let ids = map_none fault.BadId (bad_id rows) (none_of rows counters guides none).2 in
    let bad = else_none (are_ids rows.hub.qualifier rows.hub.id rows.hub.code) owner.Hub
    (option_map owner.Partner (first_row (λ p. not (has_ids p)) rows.partners)) ids in
    plain_rows rows.partners next 0 (map_none owner.Partner (first_row (λ p. not (has_ids p)) rows.partners) bad) ranges
