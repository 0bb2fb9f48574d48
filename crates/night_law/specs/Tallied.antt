-- X12.5, interchange control number, and X12.6, group control number and transaction set control number: the next counters of a night
-- are those of its tallies (own).
use Rattle.std.specs.Prelude.{◌≡◌, ℕ, ◌<◌, ◌≤◌, ◌^◌, List, ◌++◌, length, map, slice_get, Some}
use Rattle.count_numbers.specs.Counted.{acknowledgments_in, groups_in, numbers_behind}
use Rattle.count_numbers.specs.Numbers.{numbers_of}
use Rattle.count_numbers.specs.Tallies.{entries_for, tallies_of}
use Rattle.count_numbers.specs.Tally.{PartnerTally, keys_of, tally_of}
use Rattle.count_numbers.specs.declared.entry.Entry.{Entry}
use Rattle.count_numbers.specs.declared.entry.Entry.TheVariants.{Acknowledged, Delivered}
use Rattle.count_numbers.specs.declared.entry.PartnerEntry.{PartnerEntry}
use Rattle.count_numbers.specs.declared.numbering.PartnerNumbers.{PartnerNumbers}
use Rattle.mailbox.specs.Numbered.{group_key_of}
use Rattle.partner_setup.specs.declared.partner.Partner.{Partner}
use Rattle.partner_setup.specs.Setup.{SetupValue}
use Rattle.set_answers.specs.Acknowledgments.{has_reports}
use Rattle.set_answers.specs.CheckedText.{CheckedInterchange, acknowledged_to, acknowledgment_of, groups_to}
use Rattle.night_batches.specs.Night.{next_of, sets_to}

-- an acknowledgment, with a group where it has 999s
abbrev pub entry_of : CheckedInterchange → Entry
entry_of x = Acknowledged (has_reports (acknowledgment_of x))

-- what a night leaves to be numbered for a partner: its acknowledgments and its delivered sets
abbrev pub entries_to : (text : List ℕ) → SetupValue → List CheckedInterchange → (place : ℕ) → List Entry
entries_to text setup known place =
    map entry_of (acknowledged_to place known) ++ map (λ set. Delivered (group_key_of set)) (sets_to text setup known place)

-- fewer than 2^64 of them have a tally whose next counters are the partner's
abbrev pub AreCountersTallied : Type 0
AreCountersTallied =
    (text : List ℕ) (setup : SetupValue) (known : List CheckedInterchange) (place : ℕ) (partner : Partner)
    → 1 ≤ partner.cap → length (entries_to text setup known place) < 2 ^ 64
    → (numbers_of (tally_of (entries_to text setup known place)) partner.counters partner.cap).next
    ≡ next_of text setup known place partner

-- of what happens for the partners of a setup, in whatever order, the acknowledgments of one and their groups are as many as the
-- night's, and its delivered sets have the keys of the night's, in their order
pub record AreEntriesTo (text : List ℕ) (setup : SetupValue) (known : List CheckedInterchange) (place : ℕ)
    (es : List PartnerEntry) : Type 0 where
  pub acknowledgments : acknowledgments_in (entries_for place es) ≡ length (acknowledged_to place known)
  pub groups : groups_in (entries_for place es) ≡ groups_to (acknowledged_to place known)
  pub keys : keys_of (entries_for place es) ≡ map group_key_of (sets_to text setup known place)

-- a partner's first numbers in a night, and its next counters
abbrev pub night_numbers : (text : List ℕ) → SetupValue → List CheckedInterchange → (place : ℕ) → Partner → PartnerNumbers
night_numbers text setup known place partner =
    numbers_behind partner.counters partner.cap (length (acknowledged_to place known)) (groups_to (acknowledged_to place known))
    (map group_key_of (sets_to text setup known place))

-- of fewer than 2^64 entries of a partner, its tally among those of n partners gives its first numbers and its next counters
abbrev pub AreNumbersTallied : Type 0
AreNumbersTallied =
    (text : List ℕ) (setup : SetupValue) (known : List CheckedInterchange) (place : ℕ) (partner : Partner)
    (n : ℕ) (es : List PartnerEntry) (tally : PartnerTally)
    → 1 ≤ partner.cap → AreEntriesTo text setup known place es → length (entries_for place es) < 2 ^ 64
    → slice_get (tallies_of n es) place ≡ Some tally
    → (numbers_of tally partner.counters partner.cap ≡ night_numbers text setup known place partner)
    × ((numbers_of tally partner.counters partner.cap).next ≡ next_of text setup known place partner)
