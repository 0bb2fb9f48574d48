-- What is written has one reading (own).
use Rattle.std.specs.Prelude.{◌≡◌, true, List}
use Rattle.night_record.specs.Again.{again_text}
use Rattle.night_record.specs.Record.{CanBe, record_text}
use Rattle.night_record.specs.Tables.{addresses_text, are_addresses, taken_text}
use Rattle.night_record.specs.declared.addresses.AddressNext.{AddressNext}
use Rattle.night_record.specs.declared.again.AgainSet.{AgainSet}
use Rattle.night_record.specs.declared.record.NightRecord.{NightRecord}
use Rattle.night_record.specs.declared.taken.TakenInterchange.{TakenInterchange}

-- two records that can be have one text only if they are the same
abbrev pub RecordsReadBack : Type 0
RecordsReadBack = (night other : NightRecord) → CanBe night → CanBe other → record_text night ≡ record_text other → night ≡ other

abbrev pub TakenReadBack : Type 0
TakenReadBack = (list other : List TakenInterchange) → taken_text list ≡ taken_text other → list ≡ other

abbrev pub AddressesReadBack : Type 0
AddressesReadBack = (list other : List AddressNext) → are_addresses list ≡ true → are_addresses other ≡ true
    → addresses_text list ≡ addresses_text other → list ≡ other

abbrev pub AgainReadsBack : Type 0
AgainReadsBack = (list other : List AgainSet) → again_text list ≡ again_text other → list ≡ other
