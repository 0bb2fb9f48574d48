-- What one partner more is told.
use Rattle.std.proofs.Common.{◌≡◌, ◌∙◌, ℕ, ◌+◌, ◌<◌, ◌≤◌, List, [], ◌∷◌, ◌++◌, Option, Some, None, ap, arith, get_or, length}
use Rattle.std.proofs.Common.{subst, sym, take}
use Rattle.std.specs.List.{AllZip, cons_option}
use Rattle.std.proofs.lemmas.List.{append-nil}
use Rattle.std.proofs.lemmas.List.Elements.{filter_map-append}
use Rattle.night_page.specs.declared.told.PartnerTold.{PartnerTold}
use Rattle.day_command.specs.Page.{AreLinesOf, AreLinesRead, IsOneMore, IsToldAt, partner_of, partners_in}
use Rattle.day_command.proofs.Zips.{taken, zip_push}

-- lines on a text that has bytes
pub lines_read : (text lines : List ℕ) → 1 ≤ length text → AreLinesOf text lines → AreLinesRead text lines
lines_read [] lines low are = absurd (omega (arith, low))
lines_read (b ∷ bs) lines low are = are

one_more : (night : List ℕ) (o : Option (List ℕ)) (partners : List (List ℕ)) (old new : List PartnerTold)
    → AllZip (IsToldAt night) partners old → IsOneMore night o old new → AllZip (IsToldAt night) (partners ++ cons_option o []) new
one_more night None partners old new zip is =
    subst (λ (l : List (List ℕ)). AllZip (IsToldAt night) l new) (sym (append-nil partners))
    (subst (λ (l : List PartnerTold). AllZip (IsToldAt night) partners l) (sym is) zip)
one_more night (Some partner) partners old new zip (told, is, at) =
    subst (λ (l : List PartnerTold). AllZip (IsToldAt night) (partners ++ partner ∷ []) l) (sym is)
    (zip_push (IsToldAt night) partners old partner told zip at)

pub told_more : (night : List ℕ) (names : List (List ℕ)) (i : ℕ) (name : List ℕ) (old new : List PartnerTold) → i < length names
    → name ≡ get_or names i name → AllZip (IsToldAt night) (partners_in (take i names)) old
    → IsOneMore night (partner_of name) old new → AllZip (IsToldAt night) (partners_in (take (i + 1) names)) new
told_more night names i name old new low is zip more =
    subst (λ (l : List (List ℕ)). AllZip (IsToldAt night) l new)
    (sym (ap partners_in (taken names i name low is) ∙ filter_map-append partner_of (take i names) (name ∷ [])))
    (one_more night (partner_of name) (partners_in (take i names)) old new zip more)
