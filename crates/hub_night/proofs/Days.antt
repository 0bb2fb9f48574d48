-- The files of a day that were judged are gathered, and make its input.
use Rattle.std.proofs.Common.{◌≡◌, ◌∙◌, ℕ, Bool, true, List, [], ◌∷◌, ap, map, subst, sym}
use Rattle.std.specs.List.{All, AllZip, list_all, list_any}
use Rattle.std.proofs.lemmas.List.Elements.{All-cons, All-nil}
use Rattle.day_files.specs.Again.{set_in}
use Rattle.day_files.specs.Lines.{lines_of}
use Rattle.day_files.specs.Listing.{listing_of}
use Rattle.day_files.specs.Members.{IsGatheredMember, asked_again, goes_in, input_of, is_whole, part_of}
use Rattle.day_files.specs.declared.file.DayFile.{DayFile}
use Rattle.day_files.specs.declared.member.Member.{Member}
use Rattle.gather_files.specs.Apart.{text_of_files}
use Rattle.night_definition.specs.Interchanges.{text_of}
use Rattle.night_record.specs.Again.{again_text}
use Rattle.hub_night.specs.Day.{IsDayOf, IsMemberOf}
use Rattle.hub_night.specs.declared.day.Day.{Day}
use Rattle.hub_folder.specs.declared.older.Older.{Older}
use Rattle.hub_folder.specs.declared.papers.HubPapers.{HubPapers}
use Rattle.hub_night.specs.declared.setting.Setting.{Setting}

pub all_gathered : (setting : Setting) (older : Older) (papers : HubPapers) (files : List DayFile) (members : List Member)
    → AllZip (IsMemberOf setting older papers) files members → All IsGatheredMember members
all_gathered setting older papers [] [] zip = All-nil IsGatheredMember
all_gathered setting older papers [] (m ∷ ms) zip = absurd zip
all_gathered setting older papers (f ∷ fs) [] zip = absurd zip
all_gathered setting older papers (f ∷ fs) (m ∷ ms) zip =
    All-cons IsGatheredMember m ms (f.content, zip.0.gathered) (all_gathered setting older papers fs ms zip.1)

-- what was made of them, of which `slice` is the list
pub day_is : (setting : Setting) (older : Older) (papers : HubPapers) (files : List DayFile) (members slice : List Member) (day : Day)
    (table input lines : List ℕ) → slice ≡ members → AllZip (IsMemberOf setting older papers) files members
    → list_any goes_in members ≡ true → day.listing ≡ listing_of files → day.again ≡ table
    → table ≡ again_text (map set_in (asked_again slice)) → day.input ≡ input → input ≡ input_of slice
    → (All IsGatheredMember slice → text_of input ≡ text_of_files (map part_of slice)) → day.lines ≡ lines → lines ≡ lines_of 1 0 slice
    → day.is_whole ≡ list_all is_whole members → IsDayOf setting older papers files day
day_is setting older papers files ms slice day table input lines same zip some listed freed asked is joined alone said told whole = record {
  members = ms;
  members_are = zip;
  some = some;
  listing_is = listed;
  again_is = freed ∙ asked ∙ ap (λ (l : List Member). again_text (map set_in (asked_again l))) same;
  input_is = is ∙ joined ∙ ap input_of same;
  alone =
      ap text_of is ∙ alone (subst (All IsGatheredMember) (sym same) (all_gathered setting older papers files ms zip))
      ∙ ap (λ (l : List Member). text_of_files (map part_of l)) same;
  lines_are = said ∙ told ∙ ap (lines_of 1 0) same;
  whole_is = whole;
}
