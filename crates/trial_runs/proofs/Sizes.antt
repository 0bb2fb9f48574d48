-- A night by the definition has its texts and counters for each partner of the setup.
use Rattle.std.proofs.Common.{◌≡◌, ◌+◌, ◌∙◌, ℕ, List, [], ◌∷◌, length, refl, ap, suc}
use Rattle.std.proofs.lemmas.List.{length-map}
use Rattle.partner_setup.specs.Setup.{SetupValue}
use Rattle.night_batches.specs.declared.night.Night.{Night}
use Rattle.night_definition.specs.Elements.{numbered}
use Rattle.night_definition.specs.Night as room
use Rattle.night_definition.specs.ReadBack as defined
use Rattle.night_equal_read.specs.Read.{seen_night}
use Rattle.night_equal_text.specs.LookedUp.{seen_setup}
use Rattle.night_command.specs.NightFiles.{IsForPartners}

numbered_long : {A : Type 0} (n : ℕ) (xs : List A) → length (numbered n xs) ≡ length xs
numbered_long n [] = refl
numbered_long n (x ∷ xs) = ap suc (numbered_long (n + 1) xs)

pub is_for_partners : (setup : SetupValue) (night : Night) (text at : List ℕ)
    → defined.IsNight text (seen_setup setup) at (seen_night night) → IsForPartners setup night
is_for_partners setup night text at is = record {
  acks = ap (λ (n : room.Night). length n.acks) is.is ∙ length-map (numbered 0 setup.partners) _ ∙ numbered_long 0 setup.partners;
  boxes = ap (λ (n : room.Night). length n.boxes) is.is ∙ length-map (numbered 0 setup.partners) _ ∙ numbered_long 0 setup.partners;
  next = ap (λ (n : room.Night). length n.next) is.is ∙ length-map (numbered 0 setup.partners) _ ∙ numbered_long 0 setup.partners;
}
