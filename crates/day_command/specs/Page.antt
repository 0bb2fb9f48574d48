-- The page of a night (own): the files that it is made of, in the night's folder, and what it says.
use Rattle.std.specs.Prelude.{◌≡◌, ◌≤◌, ◌<◌, ◌↔◌, ◌⊎◌, ℕ, ◌-◌, eqb, true, List, [], ◌∷◌, ◌++◌, Option, Some, None, codes}
use Rattle.std.specs.Prelude.{if◌then◌else◌, length, take}
use Rattle.std.specs.List.{AllZip, ends_with, filter_map}
use Rattle.ack_lines.specs.Words.{explanation}
use Rattle.ack_read.specs.Words.{AreToldBy, IsRefused}
use Rattle.ack_read.specs.declared.fault.ReadFault.TheVariants as fault
use Rattle.ack_read.specs.declared.told.Told.{Told}
use Rattle.hub_kinds.specs.declared.limits.TheConstants.{LONGEST_TEXT}
use Rattle.inner_headers.specs.Inner.{AreInnerLines}
use Rattle.system_io.specs.Outbox.{path_in}
use Rattle.night_folder.specs.Files.{FileValue, FolderValue, bytes_or_none, first_line}
use Rattle.night_page.specs.Page.{IsPage, PageValue, has_todo}
use Rattle.night_page.specs.Rows.{Row}
use Rattle.night_page.specs.Totals.{gives_totals}
use Rattle.night_page.specs.declared.record.RecordShown.{RecordShown}
use Rattle.night_page.specs.declared.told.PartnerTold.{PartnerTold}
use Rattle.track_read.specs.Table.{IsTable}
use Rattle.day_command.specs.Record.{IsShownAt}
use Rattle.day_command.specs.declared.papers.PagePapers.{PagePapers}

-- the partner whose acknowledgments a file has, by its name
abbrev pub partner_of : (name : List ℕ) → Option (List ℕ)
partner_of name = if ends_with eqb name (codes ".ack") then Some (take (length name - 4) name) else None

abbrev pub ack_name : (partner : List ℕ) → List ℕ
ack_name partner = codes "out/" ++ (partner ++ codes ".ack")

abbrev pub unread_lines : List ℕ
unread_lines = codes "these acknowledgments can't be read\n"

-- the lines on acknowledgments: what they report, or that they can't be read
abbrev pub AreLinesOf : (text lines : List ℕ) → Type 0
AreLinesOf text lines =
    ((found : List Told) × AreToldBy text found × (lines ≡ explanation found))
    ⊎ ((IsRefused text fault.NoHeader ⊎ IsRefused text fault.TellsNothing) × (lines ≡ unread_lines))

-- a partner whom nobody answers has an empty file
abbrev pub AreLinesRead : (text lines : List ℕ) → Type 0
AreLinesRead [] lines = lines ≡ []
AreLinesRead (b ∷ bs) lines = AreLinesOf (b ∷ bs) lines

abbrev pub AreLinesIn : Option (List ℕ) → (lines : List ℕ) → Type 0
AreLinesIn None lines = lines ≡ unread_lines
AreLinesIn (Some text) lines = AreLinesRead text lines

-- what a partner's file in the folder of the night reports
pub record IsToldAt (night partner : List ℕ) (told : PartnerTold) : Type 0 where
  pub file : FileValue
  pub path_is : file.path ≡ path_in night (ack_name partner)
  pub name_is : told.partner ≡ partner
  pub lines_are : AreLinesIn file.bytes told.lines

abbrev pub partners_in : (names : List (List ℕ)) → List (List ℕ)
partners_in names = filter_map partner_of names

-- the folder out/ of the night was listed, and these are the partners whose acknowledgments it has
pub record ArePartnersAt (night : List ℕ) (partners : List PartnerTold) : Type 0 where
  pub out : FolderValue
  pub out_at : out.path ≡ night ++ codes "/out"
  pub names : List (List ℕ)
  pub listed : out.names ≡ Some names
  pub told : AllZip (IsToldAt night) (partners_in names) partners

-- the lines on an input; one that is longer than an input may be has none
abbrev pub AreInnerOf : (text : List ℕ) → (lines : List (List ℕ)) → Type 0
AreInnerOf text lines = ((length text ≤ LONGEST_TEXT) × AreInnerLines text lines) ⊎ ((LONGEST_TEXT < length text) × (lines ≡ []))

-- a night without the file has none
abbrev pub AreInnerIn : Option (List ℕ) → (lines : List (List ℕ)) → Type 0
AreInnerIn None lines = lines ≡ []
AreInnerIn (Some text) lines = AreInnerOf text lines

-- the lines on the input of the night in a folder
pub record AreInnerAt (night : List ℕ) (lines : List (List ℕ)) : Type 0 where
  pub file : FileValue
  pub path_is : file.path ≡ path_in night (codes "from/in.x12")
  pub lines_are : AreInnerIn file.bytes lines

-- private: a list that has one more if there is a partner
abbrev pub IsOneMore : (night : List ℕ) → Option (List ℕ) → (old new : List PartnerTold) → Type 0
IsOneMore night None old new = new ≡ old
IsOneMore night (Some partner) old new = (told : PartnerTold) × (new ≡ old ++ told ∷ []) × IsToldAt night partner told

-- the last line of a night's report, by its file total
abbrev pub total_of : (total : FileValue) → List ℕ
total_of total = first_line (bytes_or_none total.bytes)

-- what the page of a night is made of
abbrev pub page_value : (name : List ℕ) → (at total files : FileValue) → (inner : List (List ℕ)) → List Row → List PartnerTold
    → Option RecordShown → PageValue
page_value name at total files inner rows partners shown = record {
  night = name;
  moment = first_line (bytes_or_none at.bytes);
  total = total_of total;
  files = files.bytes;
  inner = inner;
  rows = rows;
  partners = partners;
  shown = shown;
}

-- private: these are the files in the folder of the night, and what is shown of its input and its record
pub record ArePapersAt (night : List ℕ) (papers : PagePapers) : Type 0 where
  pub at_is : papers.at.path ≡ path_in night (codes "from/at")
  pub total_is : papers.total.path ≡ path_in night (codes "total")
  pub files_are : papers.files.path ≡ path_in night (codes "files.txt")
  pub inner_are : AreInnerAt night papers.inner.items
  pub record_is : IsShownAt night papers.record

-- private: the page that is made of these, and the status
pub record IsPageOf (name : List ℕ) (papers : PagePapers) (rows : List Row) (partners : List PartnerTold) (text : List ℕ) (status : ℕ)
    : Type 0 where
  pub value : PageValue
  pub value_is : value ≡ page_value name papers.at papers.total papers.files papers.inner.items rows partners papers.record
  pub head : List ℕ
  pub foot : List ℕ
  pub page : IsPage head foot value text
  pub todo : (status ≡ 1) ↔ (has_todo value ≡ true)

-- the page of a night by its files, whose table gives the totals of the report, and the status: 1 exactly if there is something to do at
-- the hub
pub record IsPageReport (nights name text : List ℕ) (status : ℕ) : Type 0 where
  pub at : FileValue
  pub at_is : at.path ≡ path_in (path_in nights name) (codes "from/at")
  pub total : FileValue
  pub total_is : total.path ≡ path_in (path_in nights name) (codes "total")
  pub files : FileValue
  pub files_are : files.path ≡ path_in (path_in nights name) (codes "files.txt")
  pub inner : List (List ℕ)
  pub inner_are : AreInnerAt (path_in nights name) inner
  pub table : FileValue
  pub table_is : table.path ≡ path_in (path_in nights name) (codes "track.csv")
  pub bytes : List ℕ
  pub bytes_are : table.bytes ≡ Some bytes
  pub rows : List Row
  pub rows_are : IsTable bytes rows
  pub totals_are : gives_totals (total_of total) rows ≡ true
  pub partners : List PartnerTold
  pub partners_are : ArePartnersAt (path_in nights name) partners
  pub shown : Option RecordShown
  pub shown_is : IsShownAt (path_in nights name) shown
  pub value : PageValue
  pub value_is : value ≡ page_value name at total files inner rows partners shown
  pub head : List ℕ
  pub foot : List ℕ
  pub page : IsPage head foot value text
  pub todo : (status ≡ 1) ↔ (has_todo value ≡ true)
