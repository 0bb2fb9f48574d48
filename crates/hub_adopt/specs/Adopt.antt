-- Old nights become nights of a hub (own): each is there already, or is made again and kept, one after another.
use Rattle.std.specs.Prelude.{◌≡◌, ◌≢◌, ◌≤◌, ◌+◌, ◌⊎◌, ℕ, zero, suc, List, [], Option, Some, length, slice_get}
use Rattle.system_io.specs.Outbox.{path_in}
use Rattle.night_marks.specs.Order.{in_order}
use Rattle.night_marks.specs.declared.mark.NightMark.{NightMark}
use Rattle.night_review.specs.Nights.{AreNights}
use Rattle.night_shelf.specs.Shelf as shelf
use Rattle.night_shelf.specs.Shelf.{Changes, IsKept, Place}
use Rattle.night_shelf.specs.declared.night.NightFile.{NightFile}
use Rattle.hub_folder.specs.Names.{folder_name}
use Rattle.hub_night.specs.declared.night.Made.{Made}
use Rattle.hub_folder.specs.declared.told.Told.{Told}
use Rattle.hub_adopt.specs.Again.{GivesTheSame, IsMadeAgain, hub_nights}
use Rattle.hub_adopt.specs.Given.{AreGivenIn}
use Rattle.hub_adopt.specs.Lines.{lines_of}
use Rattle.hub_adopt.specs.Old.{AreAllDone, Continue}
use Rattle.hub_adopt.specs.declared.adoption.Adoption.{Adoption}
use Rattle.hub_adopt.specs.declared.next.Next.{Next}
use Rattle.hub_adopt.specs.declared.next.Next.TheVariants as next

-- a night of the hub is an old one: it has its name, under this number, and its moment, and gave the same
pub record IsOldNight (adoption : Adoption) (number : ℕ) (kept mark : NightMark) : Type 0 where
  pub name_is : kept.name ≡ folder_name number mark.name
  pub moment_is : kept.moment ≡ mark.moment
  pub given : List NightFile
  pub given_are : AreGivenIn (path_in (hub_nights adoption) kept.name) given
  pub gives : GivesTheSame adoption mark given

-- the night of the hub after `count` others is the old night
pub record IsThere (adoption : Adoption) (count : ℕ) (mark : NightMark) : Type 0 where
  pub marks : List NightMark
  pub marks_are : AreNights (hub_nights adoption) marks
  pub kept : NightMark
  pub kept_is : slice_get (in_order (length marks) [] marks) count ≡ Some kept
  pub old_is : IsOldNight adoption (count + 1) kept mark

-- what is next for an old night: nothing if it is there; or to keep it
abbrev pub IsNext : Adoption → (count : ℕ) → NightMark → Next → Type 0
IsNext adoption count mark next.There = IsThere adoption count mark
IsNext adoption count mark (next.Made made) = IsMadeAgain adoption count mark made

-- an old night was there, and the shelf is as it was
pub record WasThere (adoption : Adoption) (count : ℕ) (mark : NightMark) (old new : Option Place) : Type 0 where
  pub there : IsThere adoption count mark
  pub same : new ≡ old

-- it was made again, and is kept
pub record IsKeptNow (adoption : Adoption) (count : ℕ) (mark : NightMark) (old new : Option Place) : Type 0 where
  pub made : Made
  pub made_is : IsMadeAgain adoption count mark made
  pub kept : Changes (IsKept made.night) old new

-- it was there, or it is kept now
abbrev pub IsAdopted : Adoption → (count : ℕ) → NightMark → (old new : Option Place) → Type 0
IsAdopted adoption count mark old new = WasThere adoption count mark old new ⊎ IsKeptNow adoption count mark old new

-- the old night after `count` others is adopted
pub record IsNextAdopted (adoption : Adoption) (olds : List NightMark) (count : ℕ) (old new : Option Place) : Type 0 where
  pub mark : NightMark
  pub mark_is : slice_get olds count ≡ Some mark
  pub adopted : IsAdopted adoption count mark old new

-- the first `count` old nights are adopted, one after another
abbrev pub AreAdopted : Adoption → List NightMark → (count : ℕ) → (old new : Option Place) → Type 0
AreAdopted adoption olds zero old new = new ≡ old
AreAdopted adoption olds (suc count) old new =
    (between : Option Place) × AreAdopted adoption olds count old between × IsNextAdopted adoption olds count between new

-- the hub has no more than `count` nights
pub record HasNoMore (adoption : Adoption) (count : ℕ) : Type 0 where
  pub marks : List NightMark
  pub marks_are : AreNights (hub_nights adoption) marks
  pub few : length (in_order (length marks) [] marks) ≤ count

-- nights can be adopted: there is one or more, they continue, and the hub has no more
pub record CanBeAdopted (adoption : Adoption) (olds : List NightMark) : Type 0 where
  pub some : olds ≢ []
  pub continue : Continue adoption.limit.now adoption.nights.now olds
  pub no_more : HasNoMore adoption (length olds)

-- the old nights, in the order in which they went on from one another, each of which is done
pub record AreOldNights (adoption : Adoption) (olds : List NightMark) : Type 0 where
  pub marks : List NightMark
  pub marks_are : AreAllDone adoption.nights.now marks
  pub order_is : olds ≡ in_order (length marks) [] marks
  pub can_be : CanBeAdopted adoption olds

-- Each old night is adopted, in their order, and each has its line.
pub record IsDone (adoption : Adoption) (old new : Option Place) (told : Told) : Type 0 where
  pub olds : List NightMark
  pub olds_are : AreOldNights adoption olds
  pub adopted : AreAdopted adoption olds (length olds) old new
  pub text_is : told.text.items ≡ lines_of 1 olds
  pub status_is : told.status ≡ 0

-- a stop leaves an old night made again, whole, or not at all
pub record MayKeep (adoption : Adoption) (count : ℕ) (mark : NightMark) (old new : Option Place) : Type 0 where
  pub made : Made
  pub made_is : IsMadeAgain adoption count mark made
  pub left : Changes (shelf.MayLeave made.night) old new

-- the shelf is as it was, or a stop may leave the night
abbrev pub MayLeaveNext : Adoption → (count : ℕ) → NightMark → (old new : Option Place) → Type 0
MayLeaveNext adoption count mark old new = (new ≡ old) ⊎ MayKeep adoption count mark old new

-- some first old nights are adopted, and the next one may be
pub record MayLeaveSome (adoption : Adoption) (olds : List NightMark) (old new : Option Place) : Type 0 where
  pub count : ℕ
  pub between : Option Place
  pub adopted : AreAdopted adoption olds count old between
  pub mark : NightMark
  pub mark_is : slice_get olds count ≡ Some mark
  pub next : MayLeaveNext adoption count mark between new

-- all of them are adopted, or some first ones
abbrev pub MayLeaveFirst : Adoption → List NightMark → (old new : Option Place) → Type 0
MayLeaveFirst adoption olds old new = AreAdopted adoption olds (length olds) old new ⊎ MayLeaveSome adoption olds old new

-- the old nights were read, and all of them are adopted, or some first ones
pub record MayLeaveOld (adoption : Adoption) (old new : Option Place) : Type 0 where
  pub olds : List NightMark
  pub olds_are : AreOldNights adoption olds
  pub first : MayLeaveFirst adoption olds old new

-- Whatever the call answers, the nights are as they were, or with some first old nights, in their order.
abbrev pub MayLeave : Adoption → (old new : Option Place) → Type 0
MayLeave adoption old new = (new ≡ old) ⊎ MayLeaveOld adoption old new
