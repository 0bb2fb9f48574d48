-- Guides that have changed (own): what is said of the guides of a hub against those of its last night.
use Rattle.std.specs.Prelude.{◌≡◌, ℕ, List, [], ◌∷◌, codes}
use Rattle.guide_changes.specs.Changes.{AreChanges}
use Rattle.system_io.specs.Outbox.{path_in}
use Rattle.night_folder.specs.Files.{in_night}
use Rattle.night_shelf.specs.declared.night.NightFile.{NightFile}

-- the folder of guides of a night of the hub
abbrev pub guides_of_night : (hub night : List ℕ) → List ℕ
guides_of_night hub night = in_night (path_in hub (codes "nights")) night (codes "from/guides")

-- what is said of the guides of a hub against those of a night
abbrev pub AreChangesSince : (hub night : List ℕ) → List NightFile → (text : List ℕ) → Type 0
AreChangesSince hub night guides text = AreChanges (guides_of_night hub night) (path_in hub (codes "guides")) guides text

-- what is said of the guides of a hub, whose last night is in the folder `last`, if there is one
abbrev pub AreChangesAt : (hub last : List ℕ) → List NightFile → (text : List ℕ) → Type 0
AreChangesAt hub [] guides text = text ≡ []
AreChangesAt hub (b ∷ bs) guides text = AreChangesSince hub (b ∷ bs) guides text
