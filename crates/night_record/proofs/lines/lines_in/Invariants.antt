use Rattle.std.proofs.Common.{◌≡◌, ◌≤◌, ◌-◌, length, take, true}
use Rattle.std.specs.List.{list_all}
use Rattle.csv_fields.specs.Csv.{read}
use Rattle.night_record.specs.Lines.{is_line, lines_text}
use Rattle.night_record.proofs.lines.lines_in.Given as goal

abbrev pub invariant-loop-at : goal.invariant-loop-at
invariant-loop-at l = record {
  within : l.at ≤ length l.text;
  so_far : lines_text (read l.lines.items) ≡ take l.at l.text;
  each : list_all is_line (read l.lines.items) ≡ true;
}

abbrev pub decreases-loop-at : goal.decreases-loop-at
decreases-loop-at l = length l.text - l.at
