-- Old nights that are adopted one after another.
use Rattle.std.proofs.Common.{◌≡◌, ◌∙◌, ℕ, suc, ◌+◌, ◌<◌, List, Option, Some}
use Rattle.std.proofs.Common.{ap, arith, get_or, length, option_map, slice_get, subst, sym}
use Rattle.std.proofs.lemmas.Option.{slice_get-get_or, slice_get-map}
use Rattle.night_marks.specs.declared.mark.NightMark.{NightMark}
use Rattle.night_shelf.specs.Shelf.{Place}
use Rattle.night_shelf.specs.declared.night.KeptNight.{KeptNight}
use Rattle.night_shelf.specs.declared.night.NightFile.{NightFile}
use Rattle.hub_folder.specs.Older.{map_now}
use Rattle.hub_night.specs.declared.night.Made.{Made}
use Rattle.hub_adopt.specs.Adopt as adopt
use Rattle.hub_adopt.specs.Again.{IsMadeAgain}
use Rattle.hub_adopt.specs.declared.adoption.Adoption.{Adoption}
use Rattle.hub_adopt.specs.declared.next.Next.{Next}
use Rattle.hub_adopt.specs.declared.next.Next.TheVariants as next
use denote.Ref.{Bor}

pub night_is : (name : List ℕ) (files : List NightFile) (night : KeptNight) → name ≡ night.name → files ≡ night.files
    → record { name = name; files = files } ≡ night
night_is name files night name_is files_are =
    ap (λ (n : List ℕ). record { name = n; files = files }) name_is
    ∙ ap (λ (fs : List NightFile). record { name = night.name; files = fs }) files_are

-- the mark of a place in the order
pub mark_at : (order : List (Bor NightMark)) (i : ℕ) (mark : Bor NightMark) → i < length order → mark ≡ get_or order i mark
    → slice_get (map_now order) i ≡ Some mark.now
mark_at order i mark low is =
    slice_get-map (λ (m : Bor NightMark). m.now) order i
    ∙ ap (option_map (λ (m : Bor NightMark). m.now)) (slice_get-get_or order i mark low ∙ ap Some (sym is))

-- one old night more
pub one_more : (adoption : Adoption) (olds : List NightMark) (i : ℕ) (mark : NightMark) (old between new : Option Place)
    → slice_get olds i ≡ Some mark → adopt.AreAdopted adoption olds i old between → adopt.IsAdopted adoption i mark between new
    → adopt.AreAdopted adoption olds (i + 1) old new
one_more adoption olds i mark old between new mark_is so_far adopted =
    let next : suc i ≡ i + 1 = omega arith in
    subst (λ (n : ℕ). adopt.AreAdopted adoption olds n old new) next
    (between, so_far, record { mark = mark; mark_is = mark_is; adopted = adopted })

-- what is next for an old night
pub made_next : (adoption : Adoption) (count : ℕ) (mark : NightMark) (n : Next) (made : Made) → n ≡ next.Made made
    → adopt.IsNext adoption count mark n → IsMadeAgain adoption count mark made
made_next adoption count mark n made is by = subst (λ (x : Next). adopt.IsNext adoption count mark x) is by

pub there_next : (adoption : Adoption) (count : ℕ) (mark : NightMark) (n : Next) → n ≡ next.There → adopt.IsNext adoption count mark n
    → adopt.IsThere adoption count mark
there_next adoption count mark n is by = subst (λ (x : Next). adopt.IsNext adoption count mark x) is by
