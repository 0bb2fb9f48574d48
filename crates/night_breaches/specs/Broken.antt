-- What a breach says of nights (own): the nights, sets, rows and files that it names are there, and break the rule.
use Rattle.std.specs.Prelude.{◌≡◌, ◌≢◌, ℕ, true, false, Contains, List, [], ◌∷◌, ◌++◌, Some, reverse}
use Rattle.hub_kinds.specs.Words.{contains_text}
use Rattle.hub_ledger.specs.declared.entry.AddressNumbers.{AddressNumbers}
use Rattle.hub_ledger.specs.declared.entry.FileSum.{FileSum}
use Rattle.hub_ledger.specs.declared.entry.NightEntry.{NightEntry}
use Rattle.hub_ledger.specs.Entries.{KnownRow, fresh_keys, last_known}
use Rattle.night_breaches.specs.declared.breach.Breach.{Breach}
use Rattle.night_breaches.specs.declared.breach.Breach.TheVariants as breach
use Rattle.night_breaches.specs.declared.breach.FileFault.{FileFault}
use Rattle.night_breaches.specs.declared.breach.FileFault.TheVariants as fault
use Rattle.night_breaches.specs.declared.breach.LateMoment.{LateMoment}
use Rattle.night_breaches.specs.declared.breach.MomentBack.{MomentBack}
use Rattle.night_breaches.specs.declared.breach.NumberBreak.{NumberBreak}
use Rattle.night_breaches.specs.declared.breach.SecondDelivery.{SecondDelivery}
use Rattle.night_breaches.specs.declared.breach.WrongFile.{WrongFile}
use Rattle.night_breaches.specs.Breaches.{is_before, newest}

-- a set of a night that an older one delivered, too, and that wasn't asked for again
pub record WasDelivered (older : List NightEntry) (night : NightEntry) (b : SecondDelivery) : Type 0 where
  pub night_is : b.night ≡ night.name
  pub delivered : contains_text (fresh_keys night) b.key ≡ true
  pub before : NightEntry
  pub older_night : Contains older before
  pub earlier_is : b.earlier ≡ before.name
  pub delivered_before : contains_text before.delivered b.key ≡ true

-- a row of a night that begins otherwise than the last night that knows its address left it
pub record BeginsOtherwise (older : List NightEntry) (night : NightEntry) (b : NumberBreak) : Type 0 where
  pub night_is : b.night ≡ night.name
  pub row : AddressNumbers
  pub row_of_night : Contains night.addresses row
  pub partner_is : b.partner ≡ row.partner
  pub address_is : b.address ≡ row.address
  pub begun_is : b.begun ≡ row.begun
  pub known : KnownRow
  pub last : last_known row.address older ≡ Some known
  pub earlier_is : b.earlier ≡ known.night.name
  pub was_is : b.was ≡ known.row.partner
  pub left_is : b.left ≡ known.row.left
  pub differ : b.begun ≢ b.left

abbrev pub HasFault : FileSum → FileFault → Type 0
HasFault file fault.OfNoPartner = file.is_given ≡ false
HasFault file fault.NotListed = file.listed ≡ []
HasFault file fault.Changed = file.listed ≢ file.sum

-- a file of a night that isn't what it must be
pub record IsWrong (night : NightEntry) (b : WrongFile) : Type 0 where
  pub night_is : b.night ≡ night.name
  pub file : FileSum
  pub file_of_night : Contains night.files file
  pub file_is : b.file ≡ file.name
  pub has_fault : HasFault file b.fault

-- a moment before that of the night before
pub record IsBack (older : List NightEntry) (night : NightEntry) (b : MomentBack) : Type 0 where
  pub night_is : b.night ≡ night.name
  pub moment_is : b.moment ≡ night.moment
  pub before : NightEntry
  pub night_before : newest older ≡ Some before
  pub earlier_is : b.earlier ≡ before.name
  pub was_is : b.was ≡ before.moment
  pub back : is_before b.moment b.was ≡ true

pub record IsLate (limit : List ℕ) (night : NightEntry) (b : LateMoment) : Type 0 where
  pub night_is : b.night ≡ night.name
  pub moment_is : b.moment ≡ night.moment
  pub late : is_before limit b.moment ≡ true

-- what is broken by a night after older ones, the newest of which comes first
abbrev pub IsBroken : (limit : List ℕ) → (older : List NightEntry) → NightEntry → Breach → Type 0
IsBroken limit older night (breach.DeliveredTwice b) = WasDelivered older night b
IsBroken limit older night (breach.NumbersBreak b) = BeginsOtherwise older night b
IsBroken limit older night (breach.File b) = IsWrong night b
IsBroken limit older night (breach.MomentBack b) = IsBack older night b
IsBroken limit older night (breach.LateMoment b) = IsLate limit night b
IsBroken limit older night (breach.LastNight b) = ⊥

-- what is broken by one of these nights, in their order
pub record IsBreachOf (limit : List ℕ) (nights : List NightEntry) (b : Breach) : Type 0 where
  pub older : List NightEntry
  pub night : NightEntry
  pub later : List NightEntry
  pub stands : nights ≡ reverse older ++ night ∷ later
  pub broken : IsBroken limit older night b
