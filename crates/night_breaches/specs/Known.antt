-- Private. What ordered maps know of the nights so far.
use Rattle.std.specs.Prelude.{◌≡◌, ℕ, List, Option, option_map}
use Rattle.std.specs.BTreeMap.{BTreeMap, get_by}
use Rattle.std.specs.Cmp.Lexicographic.{slice_cmp}
use Rattle.std.specs.Ordering.{nat_cmp}
use Rattle.hub_ledger.specs.declared.entry.NightEntry.{NightEntry}
use Rattle.hub_ledger.specs.Entries.{KnownRow, last_known}
use Rattle.night_breaches.specs.declared.known.Known.{Known}
use Rattle.night_breaches.specs.declared.known.RowOfNight.{RowOfNight}
use Rattle.night_breaches.specs.Breaches.{newest, night_with}
use denote.Ref.{Bor}

abbrev pub night_in : BTreeMap (Bor (List ℕ)) (Bor (List ℕ)) → (key : List ℕ) → Option (List ℕ)
night_in nights key = option_map (λ night. night.now) (get_by (λ k. slice_cmp nat_cmp key k.now) nights)

abbrev pub known_of : RowOfNight → KnownRow
known_of known = record { night = known.night.now; row = known.row.now }

abbrev pub row_in : BTreeMap (Bor (List ℕ)) RowOfNight → (address : List ℕ) → Option KnownRow
row_in rows address = option_map known_of (get_by (λ k. slice_cmp nat_cmp address k.now) rows)

abbrev pub night_before : Option (Bor NightEntry) → Option NightEntry
night_before before = option_map (λ night. night.now) before

-- the maps have what the older nights say, of which the newest comes first
pub record Knows (known : Known) (older : List NightEntry) : Type 0 where
  pub nights : (key : List ℕ) → night_in known.nights key ≡ night_with key older
  pub rows : (address : List ℕ) → row_in known.rows address ≡ last_known address older
  pub before : night_before known.before ≡ newest older
