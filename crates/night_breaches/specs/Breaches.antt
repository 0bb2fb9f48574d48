-- What breaks a rule between nights, or in one (own; X12.5, ISA13; X12.6, GS06 and ST02). The older nights are newest first.
use Rattle.std.specs.Prelude.{ℕ, Bool, not, ◌&&◌, ◌==◌, List, [], ◌∷◌, ◌++◌, Option, Some, None, length, if◌then◌else◌}
use Rattle.std.specs.List.{flat_map}
use Rattle.std.specs.Cmp.Lexicographic.{slice_cmp}
use Rattle.std.specs.Ordering.{is_lt, nat_cmp}
use Rattle.std.specs.Str.{bytes_eq}
use Rattle.hub_kinds.specs.declared.counters.Counters.{Counters}
use Rattle.hub_kinds.specs.Words.{contains_text}
use Rattle.hub_ledger.specs.declared.entry.AddressNumbers.{AddressNumbers}
use Rattle.hub_ledger.specs.declared.entry.FileSum.{FileSum}
use Rattle.hub_ledger.specs.declared.entry.NightEntry.{NightEntry}
use Rattle.hub_ledger.specs.Entries.{KnownRow, fresh_keys, last_known}
use Rattle.night_breaches.specs.declared.breach.Breach.{Breach}
use Rattle.night_breaches.specs.declared.breach.Breach.TheVariants as breach
use Rattle.night_breaches.specs.declared.breach.FileFault.{FileFault}
use Rattle.night_breaches.specs.declared.breach.FileFault.TheVariants as fault

-- the newest night that delivered a set, by its key
abbrev pub night_with : (key : List ℕ) → List NightEntry → Option (List ℕ)
night_with key [] = None
night_with key (night ∷ older) = if contains_text night.delivered key then Some night.name else night_with key older

abbrev pub second_delivery : (night key : List ℕ) → (earlier : Option (List ℕ)) → List Breach
second_delivery night key None = []
second_delivery night key (Some earlier) = breach.DeliveredTwice (record { night = night; key = key; earlier = earlier }) ∷ []

-- the sets of these keys that were delivered before, by the last night that delivered a key
abbrev pub second_deliveries : (with : List ℕ → Option (List ℕ)) → (night : List ℕ) → (keys : List (List ℕ)) → List Breach
second_deliveries with night keys = flat_map (λ key. second_delivery night key (with key)) keys

abbrev pub same_numbers : Counters → Counters → Bool
same_numbers a b = (a.interchange == b.interchange) && ((a.group == b.group) && (a.set == b.set))

-- numbers that don't begin where the last night that knows their address left them
abbrev pub number_break : (night : List ℕ) → AddressNumbers → Option KnownRow → List Breach
number_break night row None = []
number_break night row (Some known) =
    if same_numbers row.begun known.row.left then []
    else breach.NumbersBreak (record {
      night = night;
      partner = row.partner;
      address = row.address;
      begun = row.begun;
      earlier = known.night.name;
      was = known.row.partner;
      left = known.row.left;
    }) ∷ []

abbrev pub number_breaks : (known : List ℕ → Option KnownRow) → (night : List ℕ) → List AddressNumbers → List Breach
number_breaks known night rows = flat_map (λ (row : AddressNumbers). number_break night row (known row.address)) rows

-- why a file isn't what it must be
abbrev pub file_fault : FileSum → Option FileFault
file_fault file =
    if not file.is_given then Some fault.OfNoPartner
    else if length file.listed == 0 then Some fault.NotListed
    else if bytes_eq file.listed file.sum then None
    else Some fault.Changed

abbrev pub wrong_file : (night file : List ℕ) → Option FileFault → List Breach
wrong_file night file None = []
wrong_file night file (Some fault) = breach.File (record { night = night; file = file; fault = fault }) ∷ []

abbrev pub wrong_files : (night : List ℕ) → List FileSum → List Breach
wrong_files night files = flat_map (λ (file : FileSum). wrong_file night file.name (file_fault file)) files

-- moments of twelve digits are in the order of their bytes
abbrev pub is_before : List ℕ → List ℕ → Bool
is_before a b = is_lt (slice_cmp nat_cmp a b)

-- the night before is the newest of the older ones
abbrev pub moment_back : (before : Option NightEntry) → NightEntry → List Breach
moment_back None night = []
moment_back (Some before) night =
    if is_before night.moment before.moment then breach.MomentBack (record {
      night = night.name;
      moment = night.moment;
      earlier = before.name;
      was = before.moment;
    }) ∷ []
    else []

abbrev pub late_moment : (limit : List ℕ) → NightEntry → List Breach
late_moment limit night =
    if is_before limit night.moment then breach.LateMoment (record { night = night.name; moment = night.moment }) ∷ [] else []

abbrev pub newest : List NightEntry → Option NightEntry
newest [] = None
newest (night ∷ older) = Some night

-- what a night breaks, by what is known of those before it
abbrev pub breaches_by : (with : List ℕ → Option (List ℕ)) → (known : List ℕ → Option KnownRow) → (before : Option NightEntry)
    → (limit : List ℕ) → NightEntry → List Breach
breaches_by with known before limit night =
    second_deliveries with night.name (fresh_keys night)
    ++ (number_breaks known night.name night.addresses
    ++ (wrong_files night.name night.files ++ (moment_back before night ++ late_moment limit night)))

abbrev pub breaches_on : (limit : List ℕ) → List NightEntry → NightEntry → List Breach
breaches_on limit older night =
    breaches_by (λ key. night_with key older) (λ address. last_known address older) (newest older) limit night

-- what nights break after older ones, night by night
abbrev pub breaches_after : (limit : List ℕ) → (older : List NightEntry) → List NightEntry → List Breach
breaches_after limit older [] = []
breaches_after limit older (night ∷ nights) = breaches_on limit older night ++ breaches_after limit (night ∷ older) nights

-- the name of the last night; empty if there is none
abbrev pub last_name : List NightEntry → List ℕ
last_name [] = []
last_name (night ∷ []) = night.name
last_name (night ∷ next ∷ nights) = last_name (next ∷ nights)

abbrev pub last_breach : (named : List ℕ) → List NightEntry → List Breach
last_breach named nights =
    if bytes_eq (last_name nights) named then [] else breach.LastNight (record { last = last_name nights; named = named }) ∷ []
