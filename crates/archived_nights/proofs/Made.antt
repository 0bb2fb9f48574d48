-- An archive that was made of nights.
use Rattle.std.proofs.Common.{◌≡◌, List, refl, subst, sym}
use Rattle.hub_ledger.specs.declared.entry.NightEntry.{NightEntry}
use Rattle.night_record.specs.declared.addresses.AddressNext.{AddressNext}
use Rattle.night_record.specs.declared.again.AgainSet.{AgainSet}
use Rattle.archived_nights.specs.Archive.{AreDelivered, AreLeft, entry_of, last_moment, last_name, newest_first}
use Rattle.archived_nights.specs.Archived.{IsArchiveOf}
use Rattle.archived_nights.specs.declared.archive.Archive.{Archive}
use Rattle.archived_nights.proofs.Leaving.{all_idle, entry_left}
use Rattle.archived_nights.proofs.Naming.{named}

pub made : (nights : List NightEntry) (archive : Archive) (sets : List AgainSet) (next : List AddressNext)
    → archive.name ≡ last_name nights → archive.moment ≡ last_moment nights
    → archive.sets ≡ sets → archive.next ≡ next → AreDelivered (newest_first nights) sets → AreLeft (newest_first nights) next
    → IsArchiveOf (newest_first nights) (entry_of archive)
made nights archive sets next name moment sets_are next_is delivered left = record {
  named = named nights (entry_of archive) name moment;
  delivered = subst (λ (s : List AgainSet). AreDelivered (newest_first nights) s) (sym sets_are) delivered;
  left = entry_left (newest_first nights) archive.next
      (subst (λ (n : List AddressNext). AreLeft (newest_first nights) n) (sym next_is) left);
  idle = all_idle archive.next;
  again = refl;
  files = refl;
}
