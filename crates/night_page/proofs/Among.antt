-- Who is among the senders and the receivers that are in order is who is among those of the rows.
use Rattle.std.proofs.Common.{◌≡◌, ◌∙◌, ℕ, Bool, List, [], ◌∷◌, ◌++◌, ap₂, filter, map, refl, sym}
use Rattle.std.specs.List.{flat_map}
use Rattle.std.specs.Str.{bytes_eq}
use Rattle.std.proofs.lemmas.List.Concat.{flat_map-cons}
use Rattle.night_search.specs.Lines.{receiver, sender}
use Rattle.night_page.specs.Names.{AreNames, texts_of}
use Rattle.night_page.specs.Page.{partner_among, partner_part, partner_row}
use Rattle.night_page.specs.Rows.{Row, is_delivered}
use Rattle.night_page.specs.declared.name.Name.{Name}
use Rattle.night_page.specs.declared.told.PartnerTold.{PartnerTold}
use Rattle.night_page.proofs.Naming.{same_any}

flat_same : {X : Type 0} (f g : X → List ℕ) → ((x : X) → f x ≡ g x) → (xs : List X) → flat_map f xs ≡ flat_map g xs
flat_same f g same [] = refl
flat_same f g same (x ∷ xs) =
    flat_map-cons f x xs ∙ ap₂ (λ (s t : List ℕ). s ++ t) (same x) (flat_same f g same xs) ∙ sym (flat_map-cons g x xs)

pub among_rows : (rows : List Row) (senders receivers : List Name) (partners : List PartnerTold)
    → AreNames (map sender rows) senders → AreNames (map receiver (filter is_delivered rows)) receivers
    → flat_map (partner_among (texts_of senders) (texts_of receivers)) partners ≡ flat_map (partner_row rows) partners
among_rows rows senders receivers partners sent received =
    flat_same (partner_among (texts_of senders) (texts_of receivers)) (partner_row rows)
    (λ told. ap₂ (λ (a b : Bool). partner_part told.partner a b)
    (same_any (bytes_eq told.partner) (texts_of senders) (map sender rows) sent.same)
    (same_any (bytes_eq told.partner) (texts_of receivers) (map receiver (filter is_delivered rows)) received.same)) partners
