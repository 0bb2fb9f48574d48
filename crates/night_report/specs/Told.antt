-- A report that continues (own): the lines of the interchanges that were reported so far, and what is counted of them.
use Rattle.std.specs.Prelude.{ℕ, ◌+◌, List, [], ◌++◌, length}
use Rattle.answered_sets.specs.Judged.{JudgedValue}
use Rattle.partner_setup.specs.Setup.{SetupValue}
use Rattle.night_report.specs.Adding.{none, together}
use Rattle.night_report.specs.Lines.{total_line}
use Rattle.night_report.specs.Report.{all_lines, report_totals}
use Rattle.night_report.specs.declared.totals.Totals.{Totals}

-- the lines, the totals, and how many interchanges were reported
pub record ToldValue : Type 0 where
  pub lines : List ℕ
  pub totals : Totals
  pub count : ℕ

abbrev pub nothing_told : ToldValue
nothing_told = record { lines = []; totals = none; count = 0 }

-- the same with more interchanges, of a text that begins at this offset of the whole
abbrev pub told_behind : SetupValue → (base : ℕ) → ToldValue → List JudgedValue → ToldValue
told_behind setup base told xs = record {
  lines = told.lines ++ all_lines setup base (told.count + 1) xs;
  totals = together told.totals (report_totals setup xs);
  count = told.count + length xs;
}

-- what is told of these interchanges alone, which are numbered on after `before` others
abbrev pub told_alone : SetupValue → (base before : ℕ) → List JudgedValue → ToldValue
told_alone setup base before xs = record {
  lines = all_lines setup base (before + 1) xs;
  totals = report_totals setup xs;
  count = length xs;
}

-- what is told of interchanges, and of those behind them
abbrev pub joined : ToldValue → ToldValue → ToldValue
joined first more = record {
  lines = first.lines ++ more.lines;
  totals = together first.totals more.totals;
  count = first.count + more.count;
}

-- the whole report, with the bytes outside interchanges
abbrev pub told_text : ToldValue → (outside : ℕ) → List ℕ
told_text told outside = told.lines ++ total_line told.totals outside
