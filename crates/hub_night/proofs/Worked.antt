-- What a night is made of, on examples.
use Rattle.std.specs.Prelude.{◌≡◌, ℕ, List, [], ◌∷◌, refl}
use Rattle.kept_files.specs.Files.{input_of}
use Rattle.night_shelf.specs.declared.night.NightFile.{NightFile}
use Rattle.hub_night.specs.Made.{came_files, made_files}

-- the sum of a night's input is that of what goes in of the files, whatever else the night is made of
input_is_the_last : (setup counters listing again input program : List ℕ)
    → input_of (made_files setup [] counters (came_files listing again input program)) ≡ input
input_is_the_last setup counters listing again input program = refl

input_after_guides : (setup counters listing again input program : List ℕ) (first second : NightFile)
    → input_of (made_files setup (first ∷ second ∷ []) counters (came_files listing again input program)) ≡ input
input_after_guides setup counters listing again input program first second = refl
