-- What is read of the files of an archive is its entry.
use Rattle.std.proofs.Common.{◌∙◌, List, [], ap, map, sym, ℕ}
use Rattle.hub_ledger.specs.declared.entry.NightEntry.{NightEntry}
use Rattle.night_entries.specs.Again.{key_of}
use Rattle.night_record.specs.Laws.{AddressesReadBack, AgainReadsBack}
use Rattle.night_record.specs.declared.addresses.AddressNext.{AddressNext}
use Rattle.night_record.specs.declared.again.AgainSet.{AgainSet}
use Rattle.archived_nights.specs.Archive.{rows_of}
use Rattle.archived_nights.specs.Files.{ArchiveReadsBack}
use Rattle.archived_nights.specs.declared.archive.Archive.{Archive}

entry_with : (name moment : List ℕ) → List AgainSet → List AddressNext → NightEntry
entry_with name moment sets next = record {
  name = name;
  moment = moment;
  delivered = map key_of sets;
  again = [];
  addresses = rows_of next;
  files = [];
}

pub reads_back : AgainReadsBack → AddressesReadBack → ArchiveReadsBack
unfolding entry_with
reads_back again addresses archive papers entry can_be of is =
    let of_read : Archive = is.archive in
    is.entry_is
    ∙ ap (λ (n : List ℕ). entry_with n of_read.moment of_read.sets of_read.next) (is.name_is ∙ of.name_is)
    ∙ ap (λ (m : List ℕ). entry_with archive.name m of_read.sets of_read.next) (is.moment_is ∙ of.moment_is)
    ∙ ap (λ (s : List AgainSet). entry_with archive.name archive.moment s of_read.next)
    (again of_read.sets archive.sets (sym is.delivered_are ∙ of.delivered_are))
    ∙ ap (λ (n : List AddressNext). entry_with archive.name archive.moment archive.sets n)
    (addresses of_read.next archive.next is.can_be can_be (sym is.addresses_are ∙ of.addresses_are))
