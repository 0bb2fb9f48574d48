-- The entry of an archive that was read.
use Rattle.std.proofs.Common.{◌≡◌, ◌∙◌, ℕ, true, List, [], ap, map}
use Rattle.hub_ledger.specs.declared.entry.AddressNumbers.{AddressNumbers}
use Rattle.hub_ledger.specs.declared.entry.FileSum.{FileSum}
use Rattle.hub_ledger.specs.declared.entry.NightEntry.{NightEntry}
use Rattle.night_entries.specs.Again.{key_of}
use Rattle.night_entries.specs.Good.{is_moment}
use Rattle.night_record.specs.Again.{again_text}
use Rattle.night_record.specs.Tables.{addresses_text, are_addresses}
use Rattle.night_record.specs.declared.addresses.AddressNext.{AddressNext}
use Rattle.night_record.specs.declared.again.AgainSet.{AgainSet}
use Rattle.archived_nights.specs.Archive.{rows_of}
use Rattle.archived_nights.specs.Files.{IsEntry, sums_text}
use Rattle.archived_nights.specs.declared.read.ArchivePapers.{ArchivePapers}

abbrev pub entry_with : (name moment : List ℕ) (delivered again : List (List ℕ)) → List AddressNumbers → List FileSum → NightEntry
entry_with name moment delivered again addresses files = record {
  name = name;
  moment = moment;
  delivered = delivered;
  again = again;
  addresses = addresses;
  files = files;
}

pub entered : (papers : ArchivePapers) (sets : List AgainSet) (next : List AddressNext) (name moment : List ℕ)
    (delivered again : List (List ℕ)) (rows : List AddressNumbers) (files : List FileSum)
    → name ≡ papers.name.now → moment ≡ papers.moment.now → is_moment papers.moment.now ≡ true
    → papers.sums.now ≡ sums_text papers.delivered.now papers.addresses.now
    → papers.delivered.now ≡ again_text sets → papers.addresses.now ≡ addresses_text next → are_addresses next ≡ true
    → delivered ≡ map key_of sets → again ≡ [] → rows ≡ rows_of next → files ≡ []
    → IsEntry papers (entry_with name moment delivered again rows files)
entered papers sets next name moment delivered again rows files name_is moment_is is sums sets_are next_is can_be keys none made no_files =
    record {
      archive = record { name = name; moment = moment; sets = sets; next = next };
      name_is = name_is;
      moment_is = moment_is;
      moment = is;
      sums_are = sums;
      delivered_are = sets_are;
      addresses_are = next_is;
      can_be = can_be;
      entry_is = ap (λ (d : List (List ℕ)). entry_with name moment d again rows files) keys
          ∙ ap (λ (a : List (List ℕ)). entry_with name moment (map key_of sets) a rows files) none
          ∙ ap (λ (r : List AddressNumbers). entry_with name moment (map key_of sets) [] r files) made
          ∙ ap (λ (f : List FileSum). entry_with name moment (map key_of sets) [] (rows_of next) f) no_files;
    }
