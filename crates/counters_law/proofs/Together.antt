-- The counters that are written are read, and taken.
use Rattle.std.proofs.Common.{◌≡◌, ◌∙◌, ℕ, List, [], ◌∷◌, ◌++◌, None, ap, codes, refl, subst, sym}
use Rattle.std.specs.Prelude.{All}
use Rattle.guide_tree.specs.declared.rows.GuideRows.{GuideRows}
use Rattle.hub_kinds.specs.declared.counters.Counters.{Counters}
use Rattle.partner_setup.specs.CountersText.{counters_lines, counter_lines, counters_text}
use Rattle.partner_setup.specs.Setup.{setup_of}
use Rattle.partner_setup.specs.SetupFaults.{first_fault}
use Rattle.partner_setup.specs.Sound.{AreCounters}
use Rattle.partner_setup.specs.declared.partner.Partner.{Partner}
use Rattle.partner_setup.specs.declared.rows.CounterRow.{CounterRow}
use Rattle.partner_setup.specs.declared.rows.SetupRows.{SetupRows}
use Rattle.counters_law.specs.GoingOn.{IsCountersFile, rows_of}
use Rattle.counters_law.proofs.Accepted.{no_fault, plain, same_rows}
use Rattle.counters_law.proofs.Bytes.{text_utf8}
use Rattle.counters_law.proofs.Reading.{table_read, text_parsed}
use Rattle.counters_law.proofs.Telling.{ArePlain, table_of, text_of}

lines_are : (ps : List Partner) (next : List Counters) → text_of (rows_of ps next) ≡ counters_lines ps next
lines_are [] next = refl
lines_are (p ∷ ps) [] = refl
lines_are (p ∷ ps) (c ∷ next) = ap (λ (text : List ℕ). counter_lines p.name c ++ text) (lines_are ps next)

file_of : (rs : List CounterRow) → ArePlain rs → IsCountersFile (codes "version = 2\n" ++ text_of rs) rs
file_of rs plain = record {
  utf8 = text_utf8 rs plain;
  table = table_of rs;
  parsed = text_parsed rs plain;
  read = table_read rs plain;
}

pub read_back : (rows : SetupRows) (counters : List CounterRow) (guides : List GuideRows) (next : List Counters)
    → first_fault rows counters guides ≡ None → All AreCounters next
    → IsCountersFile (counters_text (setup_of rows counters guides) next) (rows_of (setup_of rows counters guides).partners next)
read_back rows counters guides next none ranges =
    let partners = (setup_of rows counters guides).partners in
    let same = same_rows counters guides rows.partners next in
    let all = subst ArePlain (sym same) (plain rows counters guides next none ranges) in
    subst (λ (text : List ℕ). IsCountersFile (codes "version = 2\n" ++ text) (rows_of partners next)) (lines_are partners next)
    (file_of (rows_of partners next) all)

pub taken : (rows : SetupRows) (counters : List CounterRow) (guides : List GuideRows) (next : List Counters)
    → first_fault rows counters guides ≡ None → All AreCounters next
    → first_fault rows (rows_of (setup_of rows counters guides).partners next) guides ≡ None
taken rows counters guides next none ranges =
    ap (λ (rs : List CounterRow). first_fault rows rs guides) (same_rows counters guides rows.partners next)
    ∙ no_fault rows counters guides next none ranges
