-- What is kept is the night that was made.
use Rattle.std.proofs.Common.{◌≡◌, ◌≤◌, ◌⊎◌, ◌∙◌, ℕ, Bool, true, false, List, Option, Some, Result, Ok, Err}
use Rattle.std.proofs.Common.{ap, arith, codes, inl, inr, subst, sym}
use Rattle.std.specs.Prelude.{IfOk, if◌then◌else◌}
use Rattle.night_shelf.specs.Shelf.{Changes, IsKept, Place}
use Rattle.night_shelf.specs.declared.night.KeptNight.{KeptNight}
use Rattle.night_shelf.specs.declared.night.NightFile.{NightFile}
use Rattle.hub_folder.specs.Failure.{IsBefore, IsUnprinted}
use Rattle.hub_night.specs.Night.{status_by}
use Rattle.hub_command.specs.Program.{IsMadeOrThere}
use Rattle.hub_command.specs.Run.{AreAsideAt, IsDone, IsFailureOf, IsFoundAt, IsMadeAt, IsToldOf, MayKeep, MayLeaveOne}
use Rattle.hub_command.specs.There.{IsStatusIn}
use Rattle.hub_command.specs.There.IsStatusIn.{Clean, Look}
use Rattle.hub_folder.specs.declared.failure.Failure.{Failure}
use Rattle.hub_folder.specs.declared.failure.Failure.TheVariants as failure
use Rattle.hub_night.specs.declared.night.Made.{Made}
use Rattle.hub_command.specs.declared.run.Found.{Found}
use Rattle.hub_command.specs.declared.run.Found.TheVariants as found
use Rattle.hub_night.specs.declared.setting.Setting.{Setting}
use Rattle.hub_folder.specs.declared.told.Told.{Told}

pub night_is : (name : List ℕ) (files : List NightFile) (night : KeptNight) → name ≡ night.name → files ≡ night.files
    → record { name = name; files = files } ≡ night
night_is name files night name_is files_are =
    ap (λ (n : List ℕ). record { name = n; files = files }) name_is
    ∙ ap (λ (fs : List NightFile). record { name = night.name; files = fs }) files_are

pub made_at : (setting : Setting) (given : Found) (made : Made) → given ≡ found.Made made → IsFoundAt setting given → IsMadeAt setting made
made_at setting given made is by = subst (λ (f : Found). IsFoundAt setting f) is by

pub kept_now : (setting : Setting) (made : Made) (old new : Option Place) (result : Result Told Failure) → IsMadeAt setting made
    → IfOk result (λ told. IsToldOf setting made told × Changes (IsKept made.night) old new) → IfOk result (IsDone setting old new)
kept_now setting made old new (Ok told) at both = inl (record { made = made; made_at = at; kept = both.1; told_is = both.0 })
kept_now setting made old new (Err failure) at both = tt

pub may_leave : (setting : Setting) (made : Made) (old new : Option Place) → IsMadeAt setting made → MayKeep made.night old new
    → MayLeaveOne setting old new
may_leave setting made old new at (inl same) = inl same
may_leave setting made old new at (inr left) = inr (record { made = made; made_at = at; left = left })

one_at_most : (clean : Bool) (n : ℕ) → n ≡ (if clean then 0 else 1) → n ≤ 1
one_at_most true n is = omega (arith, is)
one_at_most false n is = omega (arith, is)

no_more : (status : ℕ) (is_whole : Bool) → status ≤ 1 → status_by status is_whole ≤ 1
no_more status true few = few
no_more status false few = omega arith

written_at_most : (bytes : Option (List ℕ)) (n : ℕ) → IsStatusIn bytes n → n ≤ 1
written_at_most bytes n (Clean said is) = omega (arith, is)
written_at_most bytes n (Look said is) = omega (arith, is)

-- the status of a night that is told is 0 or 1
pub status_is_few : (setting : Setting) (old new : Option Place) (told : Told) → IsDone setting old new told → told.status ≤ 1
status_is_few setting old new told (inl kept) =
    let made = kept.made_at.made_is.made_is in
    let tonight = made.draft_is.tonight_is.tonight_is in
    let laid = one_at_most _ made.draft.laid.status (made.draft_is.laid_is.status ∙ tonight.run.told) in
    subst (λ (n : ℕ). n ≤ 1) (sym (kept.told_is.status_is ∙ made.made_is.status_is ∙ made.side_is.status_is))
    (no_more made.draft.laid.status kept.made_at.day.is_whole laid)
status_is_few setting old new told (inr was) =
    subst (λ (n : ℕ). n ≤ 1) (sym was.told_is.status_is)
    (written_at_most was.there_is.there_is.given.done.bytes was.there.status was.there_is.there_is.given.status_is)

pub made_or_there : (setting : Setting) (old new : Option Place) (told : Told) → IsDone setting old new told → IsMadeOrThere setting told
made_or_there setting old new told (inl kept) = inl (kept.made, kept.made_at, kept.told_is)
made_or_there setting old new told (inr was) = inr (was.there, was.there_is, was.told_is)

pub aside_at : (setting : Setting) (given : Found) (lines : List ℕ) → given ≡ found.Aside lines → IsFoundAt setting given
    → AreAsideAt setting lines
aside_at setting given lines is by = subst (λ (f : Found). IsFoundAt setting f) is by

-- a failure that doesn't say that each file is set aside
pub failed : (setting : Setting) (f : Failure) → IsBefore f → IsFailureOf setting f
failed setting (failure.NoHub text) before = tt
failed setting (failure.IsHub text) before = tt
failed setting (failure.Busy text) before = tt
failed setting (failure.Lock text) before = tt
failed setting (failure.Nights text) before = tt
failed setting (failure.Unread text) before = tt
failed setting (failure.Refused text) before = tt
failed setting (failure.Setup text) before = tt
failed setting (failure.NotSound text) before = tt
failed setting (failure.AllAside text) before = absurd before
failed setting (failure.Chain text) before = tt
failed setting (failure.Given text) before = tt
failed setting (failure.Gone text) before = tt
failed setting (failure.Records text) before = tt
failed setting (failure.Noted text) before = tt
failed setting failure.NoNight before = tt
failed setting failure.TooMany before = tt
failed setting failure.Record before = tt
failed setting failure.InputTooLong before = tt
failed setting failure.Clock before = tt
failed setting failure.Keep before = tt
failed setting failure.Stdout before = absurd before
failed setting failure.Thread before = tt
failed setting failure.Memory before = tt

-- nothing was printed before any of them
pub unprinted : (f : Failure) → IsBefore f → IsUnprinted f
unprinted (failure.NoHub text) before = tt
unprinted (failure.IsHub text) before = tt
unprinted (failure.Busy text) before = tt
unprinted (failure.Lock text) before = tt
unprinted (failure.Nights text) before = tt
unprinted (failure.Unread text) before = tt
unprinted (failure.Refused text) before = tt
unprinted (failure.Setup text) before = tt
unprinted (failure.NotSound text) before = tt
unprinted (failure.AllAside text) before = tt
unprinted (failure.Chain text) before = tt
unprinted (failure.Given text) before = tt
unprinted (failure.Gone text) before = tt
unprinted (failure.Records text) before = tt
unprinted (failure.Noted text) before = tt
unprinted failure.NoNight before = tt
unprinted failure.TooMany before = tt
unprinted failure.Record before = tt
unprinted failure.InputTooLong before = tt
unprinted failure.Clock before = tt
unprinted failure.Keep before = tt
unprinted failure.Stdout before = absurd before
unprinted failure.Thread before = tt
unprinted failure.Memory before = tt

pub still_unprinted : (setting : Setting) (f : Failure) → IsFailureOf setting f → IsUnprinted f
still_unprinted setting (failure.NoHub text) of = tt
still_unprinted setting (failure.IsHub text) of = tt
still_unprinted setting (failure.Busy text) of = tt
still_unprinted setting (failure.Lock text) of = tt
still_unprinted setting (failure.Nights text) of = tt
still_unprinted setting (failure.Unread text) of = tt
still_unprinted setting (failure.Refused text) of = tt
still_unprinted setting (failure.Setup text) of = tt
still_unprinted setting (failure.NotSound text) of = tt
still_unprinted setting (failure.AllAside text) of = tt
still_unprinted setting (failure.Chain text) of = tt
still_unprinted setting (failure.Given text) of = tt
still_unprinted setting (failure.Gone text) of = tt
still_unprinted setting (failure.Records text) of = tt
still_unprinted setting (failure.Noted text) of = tt
still_unprinted setting failure.NoNight of = tt
still_unprinted setting failure.TooMany of = tt
still_unprinted setting failure.Record of = tt
still_unprinted setting failure.InputTooLong of = tt
still_unprinted setting failure.Clock of = tt
still_unprinted setting failure.Keep of = tt
still_unprinted setting failure.Stdout of = absurd of
still_unprinted setting failure.Thread of = tt
still_unprinted setting failure.Memory of = tt
