-- What is kept is the archive that was made.
use Rattle.std.proofs.Common.{◌≡◌, ◌∙◌, ℕ, List, Option, Some, None, ap, subst, sym}
use Rattle.night_shelf.specs.declared.night.KeptNight.{KeptNight}
use Rattle.night_shelf.specs.declared.night.NightFile.{NightFile}
use Rattle.hub_archive.specs.Archive.{HasFew, IsArchived, IsFoundAt}
use Rattle.hub_archive.specs.declared.archiving.Archiving.{Archiving}
use Rattle.hub_archive.specs.declared.made.Made.{Made}

pub night_is : (name : List ℕ) (files : List NightFile) (night : KeptNight) → name ≡ night.name → files ≡ night.files
    → record { name = name; files = files } ≡ night
night_is name files night name_is files_are =
    ap (λ (n : List ℕ). record { name = n; files = files }) name_is
    ∙ ap (λ (fs : List NightFile). record { name = night.name; files = fs }) files_are

pub made_found : (archiving : Archiving) (found : Option Made) (made : Made) → found ≡ Some made → IsFoundAt archiving found
    → IsArchived archiving made
made_found archiving found made is by = subst (λ (f : Option Made). IsFoundAt archiving f) is by

pub few_found : (archiving : Archiving) (found : Option Made) → found ≡ None → IsFoundAt archiving found → HasFew archiving
few_found archiving found is by = subst (λ (f : Option Made). IsFoundAt archiving f) is by
