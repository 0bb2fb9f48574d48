-- The text of the counters that a night begins with is read as these, and the setup is made of them.
use Rattle.std.proofs.Common.{◌≡◌, ◌∙◌, ℕ, ◌+◌, Bool, true, false, not, cond, List, [], ◌∷◌, map, Option, None, Some, length}
use Rattle.std.proofs.Common.{ap, arith, option_map, refl, subst, sym}
use Rattle.std.specs.Prelude.{All}
use Rattle.std.specs.List.{position_from}
use Rattle.std.specs.Option.{option_or}
use Rattle.std.proofs.lemmas.Bool.{and_parts}
use Rattle.std.proofs.lemmas.Bool.Decides.{nat_tests}
use Rattle.std.proofs.lemmas.List.{length-map}
use Rattle.std.proofs.lemmas.List.Elements.{All-cons, All-nil}
use Rattle.std.proofs.lemmas.Str.{is_utf8-from_IsUtf8}
use Rattle.counters_law.specs.GoingOn.{CountersGoOn, IsCountersFile, rows_of}
use Rattle.guide_tree.specs.declared.rows.GuideRows.{GuideRows}
use Rattle.hub_kinds.specs.declared.counters.Counters.{Counters}
use Rattle.hub_ledger.specs.declared.entry.NightEntry.{NightEntry}
use Rattle.night_entries.specs.Entry.{AreCounters}
use Rattle.partner_setup.specs.CountersText.{counters_text}
use Rattle.partner_setup.specs.Setup.{SetupValue, partner_of, setup_of}
use Rattle.partner_setup.specs.SetupFaults.{are_counters, bad_cap, bad_counter, bad_delimiters, bad_guides, bad_id, bad_route, counts_for}
use Rattle.partner_setup.specs.SetupFaults.{by_name, fault_of_names, first_fault, first_row, first_twin, lesser_place, same_partner}
use Rattle.partner_setup.specs.Sound as sound
use Rattle.partner_setup.specs.declared.rows.CounterRow.{CounterRow}
use Rattle.partner_setup.specs.declared.rows.PartnerRow.{PartnerRow}
use Rattle.partner_setup.specs.declared.rows.SetupRows.{SetupRows}
use Rattle.partner_setup.specs.declared.setup_fault.SetupFault.TheVariants as fault
use Rattle.hub_tonight.specs.Begun.{begun_row}
use Rattle.hub_tonight.specs.Made.{AreOfPartners, IsBuilt, IsSetupBy}

-- the rows that a night begins with are of its partners
pub of_partners : (older : List NightEntry) (first : List CounterRow) (ps : List PartnerRow) (rows : List CounterRow)
    → rows ≡ map (begun_row older first) ps → AreOfPartners rows ps
of_partners older first ps rows are = subst (λ (rs : List CounterRow). AreOfPartners rs ps) (sym are) (named ps)
  where
    named : (ps : List PartnerRow) → AreOfPartners (map (begun_row older first) ps) ps
    named [] = refl
    named (p ∷ ps) = ap (λ (names : List (List ℕ)). p.name ∷ names) (named ps)

-- there are as many of them
pub as_many : (starts : List CounterRow) (guides : List GuideRows) (ps : List PartnerRow) (rows : List CounterRow) → AreOfPartners rows ps
    → length (map (λ (r : CounterRow). r.counters) rows) ≡ length (map (partner_of starts guides) ps)
as_many starts guides ps rows are =
    length-map rows (λ (r : CounterRow). r.counters)
    ∙ sym (length-map rows (λ (r : CounterRow). r.partner))
    ∙ ap length are
    ∙ length-map ps (λ (p : PartnerRow). p.name)
    ∙ sym (length-map ps (partner_of starts guides))

rows_back : (starts : List CounterRow) (guides : List GuideRows) (ps : List PartnerRow) (rows : List CounterRow) → AreOfPartners rows ps
    → rows_of (map (partner_of starts guides) ps) (map (λ (r : CounterRow). r.counters) rows) ≡ rows
rows_back starts guides [] [] are = refl
rows_back starts guides [] (r ∷ rows) are = cc
rows_back starts guides (p ∷ ps) [] are = cc
rows_back starts guides (p ∷ ps) (r ∷ rows) are =
    let name : r.partner ≡ p.name = cc in
    let names : AreOfPartners rows ps = cc in
    ap (λ (n : List ℕ). record { partner = n; counters = r.counters } ∷ rows_of (map (partner_of starts guides) ps)
    (map (λ (r : CounterRow). r.counters) rows)) (sym name)
    ∙ ap (λ (more : List CounterRow). r ∷ more) (rows_back starts guides ps rows names)

in_range : (c : Counters) → are_counters c ≡ true → sound.AreCounters c
in_range c h = grind (arith, nat_tests)

or_second : {A : Type 0} (a b : Option A) → option_or a b ≡ None → b ≡ None
or_second None b e = e
or_second (Some x) b e = cc

or_first : {A : Type 0} (a b : Option A) → option_or a b ≡ None → a ≡ None
or_first None b e = refl
or_first (Some x) b e = cc

map_none : {A B : Type 0} (f : A → B) (a : Option A) → option_map f a ≡ None → a ≡ None
map_none f None e = refl
map_none f (Some x) e = cc

lesser_first : (a b : Option ℕ) → lesser_place a b ≡ None → a ≡ None
lesser_first None b e = refl
lesser_first (Some m) None e = cc
lesser_first (Some m) (Some n) e = cc

if_none : {A : Type 0} (b : Bool) (x : A) (o : Option A) → cond b (Some x) o ≡ None → (b ≡ false) × (o ≡ None)
if_none true x o e = cc
if_none false x o e = (refl, e)

not_no : (b : Bool) → not b ≡ false → b ≡ true
not_no true e = refl
not_no false e = cc

-- none of the rows is refused
none_bad : (rows : SetupRows) (begun : List CounterRow) (guides : List GuideRows) → first_fault rows begun guides ≡ None
    → first_row (λ c. not (counts_for rows.partners c)) begun ≡ None
none_bad rows begun guides none =
    let a = or_second (option_map fault.SamePartner (same_partner rows.partners)) _ none in
    let b = or_second (option_map fault.BadDelimiters (bad_delimiters rows.partners)) _ a in
    let d = or_second (option_map fault.BadId (bad_id rows)) _ b in
    let e = or_second (option_map fault.BadGuides (bad_guides rows.partners guides)) (fault_of_names rows begun) d in
    let f = or_second (option_map fault.BadRoute (bad_route rows.partners rows.routes)) _ e in
    let g = or_first (option_map fault.BadCounter (bad_counter rows.partners begun)) (option_map fault.BadCap (bad_cap rows.partners)) f in
    lesser_first (first_row (λ c. not (counts_for rows.partners c)) begun) (first_twin (λ (c : CounterRow). by_name c.partner) begun)
    (map_none fault.BadCounter (bad_counter rows.partners begun) g)

ranges : (ps : List PartnerRow) (rows : List CounterRow) (i : ℕ) → position_from (λ c. not (counts_for ps c)) i rows ≡ None
    → All sound.AreCounters (map (λ (r : CounterRow). r.counters) rows)
ranges ps [] i none = All-nil sound.AreCounters
ranges ps (r ∷ rows) i none =
    let parts = if_none (not (counts_for ps r)) i (position_from (λ c. not (counts_for ps c)) (i + 1) rows) none in
    let counts = and_parts _ _ (not_no (counts_for ps r) parts.0) in
    All-cons sound.AreCounters r.counters (map (λ (r : CounterRow). r.counters) rows) (in_range r.counters counts.0)
    (ranges ps rows (i + 1) parts.1)

read_of : (bytes : List ℕ) (rows : List CounterRow) → IsCountersFile bytes rows → AreCounters bytes rows
read_of bytes rows file = (file.table, rw (is_utf8-from_IsUtf8 bytes file.utf8) file.parsed, file.read)

pub built_is : CountersGoOn → (rows : SetupRows) (begun : List CounterRow) (guides : List GuideRows) (setup : SetupValue)
    (numbers : List Counters) (counters : List ℕ) → IsSetupBy rows begun guides setup → AreOfPartners begun rows.partners
    → numbers ≡ map (λ (r : CounterRow). r.counters) begun → counters ≡ counters_text setup numbers
    → IsBuilt rows begun guides (record { counters = counters; setup = setup })
built_is go_on rows begun guides setup numbers counters by names numbers_are text = record {
  setup_by = by;
  counters_are =
      let next = map (λ (r : CounterRow). r.counters) begun in
      let size = as_many begun guides rows.partners begun names ∙ length-map rows.partners (partner_of begun guides) in
      let ranged = ranges rows.partners begun 0 (none_bad rows begun guides by.accepted) in
      let file = (go_on rows begun guides next by.accepted size ranged).0 in
      let same : counters_text (setup_of rows begun guides) next ≡ counters =
      sym (text ∙ ap (counters_text setup) numbers_are ∙ ap (λ (s : SetupValue). counters_text s next) by.setup_is) in
      read_of counters begun
      (subst (λ (t : List ℕ). IsCountersFile t begun) same
      (subst (IsCountersFile (counters_text (setup_of rows begun guides) next)) (rows_back begun guides rows.partners begun names) file));
}

-- the numbers of the rows are as many as the partners of the setup
pub numbers_fit : (rows : SetupRows) (begun : List CounterRow) (guides : List GuideRows) (setup : SetupValue) (numbers : List Counters)
    → IsSetupBy rows begun guides setup → AreOfPartners begun rows.partners → numbers ≡ map (λ (r : CounterRow). r.counters) begun
    → length numbers ≡ length setup.partners
numbers_fit rows begun guides setup numbers by names are =
    ap length are
    ∙ as_many begun guides rows.partners begun names
    ∙ ap (λ (s : SetupValue). length s.partners) (sym by.setup_is)
