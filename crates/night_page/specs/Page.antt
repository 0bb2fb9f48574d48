-- The page of a night (own): what it is made of, and its parts, one after another.
use Rattle.std.specs.Prelude.{◌≡◌, ℕ, ◌-◌, ◌&&◌, ◌||◌, nat_lt, not, eqb, Bool, true, false, List, [], ◌∷◌, ◌++◌, codes, decimal}
use Rattle.std.specs.Prelude.{Option, filter, length, map, option_map, take, if◌then◌else◌, is_some}
use Rattle.std.specs.List.{count_by, ends_with, flat_map, list_any}
use Rattle.std.specs.Str.{bytes_eq}
use Rattle.csv.specs.Records.{fields_of}
use Rattle.html_text.specs.Html.{html_bytes}
use Rattle.night_search.specs.Lines.{document, receiver, sender, st01, verdict}
use Rattle.night_page.specs.Causes.{AreCauses, cause_of, has_cause}
use Rattle.night_page.specs.Files.{are_whole, aside_part, files_part, lines_of}
use Rattle.night_page.specs.Inner.{inner_part}
use Rattle.night_page.specs.Names.{is_filled}
use Rattle.night_page.specs.Record.{moment_words, record_part}
use Rattle.night_page.specs.Rows.{Row, end_words, group_words, has_outcome, is_delivered, is_refused, isa13, st02, subject_words}
use Rattle.night_page.specs.Tags.{count_box, item, table_head, table_row, tagged}
use Rattle.night_page.specs.declared.name.Name.{Name}
use Rattle.night_page.specs.declared.page.NightPage.{NightPage}
use Rattle.night_page.specs.declared.record.RecordShown.{RecordShown}
use Rattle.night_page.specs.declared.told.PartnerTold.{PartnerTold}

-- the night's name, its moment (CCYYMMDDHHMM), the last line of its report, the text on the files of the day, a line for each refused
-- interchange with further headers, the rows of its table, what partners are told, and what is shown of its record
pub record PageValue : Type 0 where
  pub night : List ℕ
  pub moment : List ℕ
  pub total : List ℕ
  pub files : Option (List ℕ)
  pub inner : List (List ℕ)
  pub rows : List Row
  pub partners : List PartnerTold
  pub shown : Option RecordShown

-- private: what a page that is lent is made of
abbrev pub value_of : NightPage → PageValue
value_of page = record {
  night = page.night.now;
  moment = page.moment.now;
  total = page.total.now;
  files = option_map (λ text. text.now) page.files;
  inner = page.inner.now;
  rows = map fields_of page.rows.now;
  partners = page.partners.now;
  shown = option_map (λ shown. shown.now) page.record;
}

abbrev pub title_part : PageValue → List ℕ
title_part page =
    tagged (codes "<title>Night ") page.night (codes "</title>\n</head>\n<body>\n<h1>Night ")
    ++ (tagged [] page.night (codes "</h1>\n<p>")
    ++ (tagged [] (moment_words page.moment) (codes "; ") ++ tagged [] page.total (codes "</p>\n")))

abbrev pub is_held : Row → Bool
is_held row = has_outcome (codes "held route") row || has_outcome (codes "held delimiter") row

abbrev pub is_rejected : Row → Bool
is_rejected row = has_outcome (codes "rejected") row

abbrev pub counts_part : List Row → List ℕ
counts_part rows =
    codes "<dl>\n" ++ (count_box (codes "Delivered") (count_by is_delivered rows) ++ (count_box (codes "Held") (count_by is_held rows)
    ++ (count_box (codes "Rejected") (count_by is_rejected rows)
    ++ (count_box (codes "Interchanges refused") (count_by is_refused rows) ++ codes "</dl>\n"))))

-- the rows of a cause
abbrev pub item_or_none : (cause : List ℕ) → Row → List ℕ
item_or_none cause row = if has_cause cause row then item (subject_words row) else []

-- a cause, how many rows have it, and which
abbrev pub cause_part : List Row → (cause : List ℕ) → List ℕ
cause_part rows cause =
    tagged (codes "<details class=\"todo\"><summary>") cause (codes " (")
    ++ (decimal (count_by (has_cause cause) rows) ++ (codes ")</summary>\n<ul>\n"
    ++ (flat_map (item_or_none cause) rows ++ codes "</ul></details>\n")))

abbrev pub name_part : List Row → Name → List ℕ
name_part rows name = cause_part rows name.text

abbrev pub further_part : ℕ → List ℕ
further_part count = codes "<p>Further causes: " ++ (decimal count ++ codes "</p>\n")

-- of more than a hundred causes the others are counted
abbrev pub others_part : ℕ → List ℕ
others_part count = if nat_lt 100 count then further_part (count - 100) else []

abbrev pub causes_part : List Row → List Name → List ℕ
causes_part rows causes = flat_map (name_part rows) (take 100 causes) ++ others_part (length causes)

-- the last line of a report that has no byte outside interchanges
abbrev pub is_all_inside : (total : List ℕ) → Bool
is_all_inside total = ends_with eqb total (codes " outside 0")

abbrev pub outside_part : (inside : Bool) → List ℕ
outside_part true = []
outside_part false = codes "<p class=\"todo\">Some bytes are in no interchange: see outside, in the line above.</p>\n"

abbrev pub none_part : (calm : Bool) → List Name → List ℕ
none_part true [] = codes "<p>Nothing.</p>\n"
none_part calm causes = []

-- no byte is outside, each file of the day went in whole, and no refused interchange has further headers
abbrev pub is_calm : (inside : Bool) → (lines inner : List (List ℕ)) → Bool
is_calm inside lines inner = inside && (are_whole lines && not (is_filled inner))

abbrev pub todo_part : (inside : Bool) → (lines inner : List (List ℕ)) → List Row → List Name → List ℕ
todo_part inside lines inner rows causes =
    codes "<h2>To do at the hub</h2>\n" ++ (aside_part lines ++ (inner_part inner ++ (outside_part inside
    ++ (none_part (is_calm inside lines inner) causes ++ causes_part rows causes))))

abbrev pub lines_part : (partner lines : List ℕ) → List ℕ
lines_part partner lines =
    tagged (codes "<details><summary>") partner (codes "</summary>\n<pre>") ++ (html_bytes lines ++ codes "</pre></details>\n")

-- what the acknowledgments of a partner say, if they say anything
abbrev pub told_by : (partner lines : List ℕ) → List ℕ
told_by partner [] = []
told_by partner (b ∷ bs) = lines_part partner (b ∷ bs)

abbrev pub told_one : PartnerTold → List ℕ
told_one told = told_by told.partner told.lines

abbrev pub told_part : List PartnerTold → List ℕ
told_part partners = codes "<h2>Told to senders</h2>\n" ++ flat_map told_one partners

abbrev pub has_sent : List Row → (partner : List ℕ) → Bool
has_sent rows partner = list_any (bytes_eq partner) (map sender rows)

abbrev pub has_received : List Row → (partner : List ℕ) → Bool
has_received rows partner = list_any (bytes_eq partner) (map receiver (filter is_delivered rows))

abbrev pub answer_words : Bool → List ℕ
answer_words true = codes "yes"
answer_words false = codes "nothing"

-- a file of a partner, as a link from the night's folder
abbrev pub link_part : (partner kind : List ℕ) → List ℕ
link_part partner kind = tagged (codes "<a href=\"out/") partner kind ++ (codes "\">" ++ (kind ++ codes "</a> "))

abbrev pub partner_part : (partner : List ℕ) → (has_sent has_received : Bool) → List ℕ
partner_part partner has_sent has_received =
    tagged (codes "<tr><th scope=\"row\">") partner (codes "</th><td>")
    ++ (answer_words has_sent ++ (codes "</td><td>" ++ (answer_words has_received
    ++ (codes "</td><td>" ++ (link_part partner (codes ".ack") ++ (link_part partner (codes ".box") ++ codes "</td></tr>\n"))))))

-- by who is among the senders and the receivers of rows
abbrev pub partner_among : (senders receivers : List (List ℕ)) → PartnerTold → List ℕ
partner_among senders receivers told =
    partner_part told.partner (list_any (bytes_eq told.partner) senders) (list_any (bytes_eq told.partner) receivers)

abbrev pub partner_row : List Row → PartnerTold → List ℕ
partner_row rows told = partner_part told.partner (has_sent rows told.partner) (has_received rows told.partner)

abbrev pub partners_part : List Row → List PartnerTold → List ℕ
partners_part rows partners =
    codes "<h2>Partners</h2>\n<table>\n"
    ++ (table_head (codes "Partner" ∷ codes "Sent" ∷ codes "Received" ∷ codes "Files" ∷ [])
    ++ (flat_map (partner_row rows) partners ++ codes "</tbody>\n</table>\n"))

abbrev pub set_row : Row → List ℕ
set_row row =
    table_row (st01 row ∷ document row ∷ sender row ∷ isa13 row ∷ group_words row ∷ st02 row ∷ verdict row ∷ end_words row ∷ [])

-- of more than 5,000 rows those of deliveries are left out
abbrev pub is_short : List Row → Bool
is_short rows = nat_lt 5000 (length rows)

abbrev pub set_row_or_none : (short : Bool) → Row → List ℕ
set_row_or_none short row = if short && is_delivered row then [] else set_row row

abbrev pub sets_head : (short : Bool) → List ℕ
sets_head true = codes "<h2>Sets that were not delivered</h2>\n"
sets_head false = codes "<h2>All sets</h2>\n"

-- where a reader types what is to be found in the table
abbrev pub find_part : List ℕ
find_part =
    codes "<p class=\"find\"><label>Find <input type=\"search\" id=\"find\"></label> <output id=\"found\"></output></p>\n"

abbrev pub set_columns : List (List ℕ)
set_columns =
    codes "Set" ∷ codes "Document" ∷ codes "From" ∷ codes "ISA13" ∷ codes "Group" ∷ codes "ST02" ∷ codes "Verdict" ∷ codes "Outcome" ∷ []

abbrev pub set_table : List ℕ
set_table = find_part ++ (codes "<table id=\"sets\">\n" ++ table_head set_columns)

abbrev pub sets_part : List Row → List ℕ
sets_part rows =
    sets_head (is_short rows) ++ (set_table
    ++ (flat_map (set_row_or_none (is_short rows)) rows ++ codes "</tbody>\n</table>\n"))

-- the page between a head and a foot, which are the same for all nights
abbrev pub page_text : (head foot : List ℕ) → PageValue → (causes : List Name) → List ℕ
page_text head foot page causes =
    head ++ (title_part page ++ (counts_part page.rows
    ++ (todo_part (is_all_inside page.total) (lines_of page.files) page.inner page.rows causes
    ++ (files_part page.files ++ (told_part page.partners ++ (partners_part page.rows page.partners
    ++ (sets_part page.rows ++ (record_part page.shown ++ foot))))))))

pub record IsPage (head foot : List ℕ) (page : PageValue) (text : List ℕ) : Type 0 where
  pub causes : List Name
  pub causes_are : AreCauses page.rows causes
  pub text_is : text ≡ page_text head foot page causes

-- there is something to do: a byte is outside, a file is set aside or isn't whole, a refused interchange has further headers, or a row is
-- a cause
abbrev pub has_todo : PageValue → Bool
has_todo page =
    not (is_calm (is_all_inside page.total) (lines_of page.files) page.inner) || list_any (λ row. is_some (cause_of row)) page.rows
