-- The last night of a list is the one whose name is last.
use Rattle.std.proofs.Common.{◌≡◌, ◌-◌, ◌∙◌, List, [], ◌∷◌, Some, ap, arith, length, suc}
use Rattle.std.specs.Prelude.{slice_get}
use Rattle.hub_ledger.specs.declared.entry.NightEntry.{NightEntry}
use Rattle.night_breaches.specs.Breaches.{last_name}

pub last_get : (nights : List NightEntry) (night : NightEntry) → Some night ≡ slice_get nights (length nights - 1)
    → night.name ≡ last_name nights
last_get [] night is = absurd (cc)
last_get (x ∷ []) night is = let same : night ≡ x = cc in ap (λ (n : NightEntry). n.name) same
last_get (x ∷ y ∷ nights) night is =
    let one : length (x ∷ y ∷ nights) - 1 ≡ suc (length nights) = omega (arith) in
    let two : length nights ≡ length (y ∷ nights) - 1 = omega (arith) in
    last_get (y ∷ nights) night (is ∙ ap (slice_get (x ∷ y ∷ nights)) one ∙ ap (slice_get (y ∷ nights)) two)
