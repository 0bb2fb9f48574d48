-- A page that is made of the files of a night.
use Rattle.std.proofs.Common.{◌≡◌, ◌∙◌, ℕ, List, Option, None, Some, Result, Ok, Err, Vec, ap, map, refl, subst, sym, true}
use Rattle.std.specs.Prelude.{IfErr, IsErrAnd}
use Rattle.std.specs.declared.alloc.Global.{Global}
use Rattle.csv.specs.Records.{fields_of}
use Rattle.csv.specs.declared.record.ByteRecord.{ByteRecord}
use Rattle.system_io.specs.Outbox.{path_in}
use Rattle.night_page.specs.Page.{PageValue}
use Rattle.night_page.specs.Rows.{Row}
use Rattle.night_page.specs.Totals.{gives_totals}
use Rattle.night_page.specs.declared.record.RecordShown.{RecordShown}
use Rattle.night_page.specs.declared.told.PartnerTold.{PartnerTold}
use Rattle.track_read.specs.Night.{IsStateOf}
use Rattle.track_read.specs.Table.{IsTable}
use Rattle.track_read.specs.declared.night.TableState.TheVariants as state
use Rattle.day_command.specs.Failure.{IsBefore}
use Rattle.day_command.specs.declared.failure.Failure.{Failure}
use Rattle.day_command.specs.declared.failure.Failure.TheVariants as failure
use Rattle.day_command.specs.Page.{ArePapersAt, ArePartnersAt, IsPageOf, IsPageReport, total_of}
use Rattle.day_command.specs.Tables.{IsStateAt}
use Rattle.day_command.specs.declared.papers.PagePapers.{PagePapers}

abbrev pub value : (night moment total : List ℕ) → Option (List ℕ) → (inner : List (List ℕ)) → List Row → List PartnerTold
    → Option RecordShown → PageValue
value night moment total files inner rows partners shown =
    record {
      night = night;
      moment = moment;
      total = total;
      files = files;
      inner = inner;
      rows = rows;
      partners = partners;
      shown = shown;
    }

pub same_value : (night night_is moment moment_is total total_is : List ℕ) (files files_are : Option (List ℕ))
    (inner inner_are : List (List ℕ)) (rows rows_are : List Row) (partners partners_are : List PartnerTold)
    (shown shown_is : Option RecordShown)
    → night ≡ night_is → moment ≡ moment_is → total ≡ total_is → files ≡ files_are → inner ≡ inner_are → rows ≡ rows_are
    → partners ≡ partners_are → shown ≡ shown_is
    → value night moment total files inner rows partners shown
    ≡ value night_is moment_is total_is files_are inner_are rows_are partners_are shown_is
same_value night night_is moment moment_is total total_is files files_are inner inner_are rows rows_are partners partners_are shown shown_is
    n m t f i r p s =
    ap (λ (x : List ℕ). value x moment total files inner rows partners shown) n
    ∙ ap (λ (x : List ℕ). value night_is x total files inner rows partners shown) m
    ∙ ap (λ (x : List ℕ). value night_is moment_is x files inner rows partners shown) t
    ∙ ap (λ (x : Option (List ℕ)). value night_is moment_is total_is x inner rows partners shown) f
    ∙ ap (λ (x : List (List ℕ)). value night_is moment_is total_is files_are x rows partners shown) i
    ∙ ap (λ (x : List Row). value night_is moment_is total_is files_are inner_are x partners shown) r
    ∙ ap (λ (x : List PartnerTold). value night_is moment_is total_is files_are inner_are rows_are x shown) p
    ∙ ap (λ (x : Option RecordShown). value night_is moment_is total_is files_are inner_are rows_are partners_are x) s

-- a table that was read has these bytes
rows_read : (bytes : Option (List ℕ)) (rows : Vec ByteRecord Global) → IsStateOf bytes (state.Rows rows)
    → (text : List ℕ) × (bytes ≡ Some text) × IsTable text (map fields_of rows.items)
rows_read None rows is = absurd is
rows_read (Some text) rows is = (text, refl, is)

pub paged : (nights name folder : List ℕ) (papers : PagePapers) (rows : Vec ByteRecord Global) (partners : List PartnerTold) (text : List ℕ)
    (status : ℕ) → folder ≡ path_in nights name → ArePapersAt folder papers → IsStateAt folder (state.Rows rows)
    → gives_totals (total_of papers.total) (map fields_of rows.items) ≡ true → ArePartnersAt folder partners
    → IsPageOf name papers (map fields_of rows.items) partners text status → IsPageReport nights name text status
paged nights name folder papers rows partners text status is papers_are state_is totals_are partners_are page =
    let at = subst (λ (f : List ℕ). ArePapersAt f papers) is papers_are in
    let table = subst (λ (f : List ℕ). IsStateAt f (state.Rows rows)) is state_is in
    let read = rows_read table.file.bytes rows table.state_is in
    record {
      at = papers.at;
      at_is = at.at_is;
      total = papers.total;
      total_is = at.total_is;
      files = papers.files;
      files_are = at.files_are;
      inner = papers.inner.items;
      inner_are = at.inner_are;
      table = table.file;
      table_is = table.path_is;
      bytes = read.0;
      bytes_are = read.1;
      rows = map fields_of rows.items;
      rows_are = read.2;
      totals_are = totals_are;
      partners = partners;
      partners_are = subst (λ (f : List ℕ). ArePartnersAt f partners) is partners_are;
      shown = papers.record;
      shown_is = at.record_is;
      value = page.value;
      value_is = page.value_is;
      head = page.head;
      foot = page.foot;
      page = page.page;
      todo = page.todo;
    }

-- out of memory comes before anything is printed
pub of_memory : {A : Type 0} (result : Result A Failure) → IsErrAnd result (λ f. f ≡ failure.Memory) → IfErr result IsBefore
of_memory (Ok a) memory = tt
of_memory (Err f) memory = subst IsBefore (sym memory) tt
