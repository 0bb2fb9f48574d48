-- The table of a counters file is read as its rows, and its text as that table.
use Rattle.std.proofs.Common.{◌≡◌, ◌≤◌, ◌∙◌, ℕ, suc, true, false, List, [], ◌∷◌, ◌++◌, length, Option, None, Some}
use Rattle.std.proofs.Common.{Ok}
use Rattle.std.proofs.Common.{arith, ap, codes, option_map, refl}
use Rattle.std.specs.Prelude.{pos}
use Rattle.std.proofs.lemmas.Bool.Decides.{nat_tests}
use Rattle.toml.specs.Data.{Members, table}
use Rattle.toml.specs.Parse.{lines, parse_document, skip_bom}
use Rattle.toml.specs.Tables.{Document, close, no_nodes}
use Rattle.toml.proofs.ReadLines.{read_lines, run}
use Rattle.toml.proofs.Turns.{document_some}
use Rattle.toml_keys.specs.Tables.{are_tables, count_of_integer}
use Rattle.partner_setup.specs.CountersFile.{counter_in, counters_of_table, second_counter_of, counters_top}
use Rattle.partner_setup.specs.SetupFile.{rows_in}
use Rattle.partner_setup.specs.declared.rows.CounterRow.{CounterRow}
use Rattle.partner_setup.specs.declared.values.Version.TheVariants as versions
use Rattle.counters_law.proofs.Defining.{defined}
use Rattle.counters_law.proofs.Telling.{ArePlain, IsPlain, expressions_of, items_of, members_of, number_pair, table_of, text_of}
use Rattle.counters_law.proofs.Writing.{version_printed, version_text}

counted : (n : ℕ) → n ≤ 999999999 → count_of_integer (pos n) ≡ Some n
counted n h = grind (arith, nat_tests)

row_read : (r : CounterRow) → IsPlain r → counter_in versions.Second (table (members_of r)) ≡ Ok r
unfolding second_counter_of
row_read r p =
    let c = p.counters in
    rw (counted r.counters.interchange c.1, counted r.counters.group c.3, counted r.counters.set c.5) refl

tables : (rs : List CounterRow) → are_tables (items_of rs) ≡ true
tables [] = refl
tables (r ∷ rs) = tables rs

rows_read : (rs : List CounterRow) → ArePlain rs → rows_in (counter_in versions.Second) (items_of rs) ≡ Ok rs
rows_read [] plain = refl
rows_read (r ∷ rs) plain = rw (row_read r plain.0, rows_read rs plain.1) refl

-- the rows of the table
pub table_read : (rs : List CounterRow) → ArePlain rs → counters_of_table (table_of rs) ≡ Ok rs
unfolding counters_of_table counters_top
table_read [] plain = refl
table_read (r ∷ rs) plain = rw (tables (r ∷ rs), rows_read (r ∷ rs) plain) refl

no_skip : (text : List ℕ) → skip_bom (codes "version = 2\n" ++ text) ≡ codes "version = 2\n" ++ text
unfolding skip_bom
no_skip text = refl

parsed_by : (text : List ℕ) (o : Option Document) (t : Members) → lines (suc (length text)) (no_nodes, []) (skip_bom text) ≡ o
    → option_map (λ doc. close doc.0) o ≡ Some t → parse_document text ≡ Some t
parsed_by text None t read is = cc
parsed_by text (Some doc) t read is = document_some text doc read ∙ is

-- the table of the text
pub text_parsed : (rs : List CounterRow) → ArePlain rs → parse_document (codes "version = 2\n" ++ text_of rs) ≡ Some (table_of rs)
text_parsed rs plain =
    let text = codes "version = 2\n" ++ text_of rs in
    let es = number_pair (codes "version") 2 ∷ expressions_of rs in
    let read = read_lines false false es text text (no_nodes, []) (suc (length text)) (version_text rs plain) (version_printed rs) refl
    (omega arith) in
    parsed_by text (run (no_nodes, []) es) (table_of rs) (ap (lines (suc (length text)) (no_nodes, [])) (no_skip (text_of rs)) ∙ read)
    (defined rs)
