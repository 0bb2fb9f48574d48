use Rattle.std.proofs.Common.{◌≡◌, ◌++◌, drop, true}
use Rattle.x12_segs.specs.Words.{occurrences}
use Rattle.elem_rules.specs.Divided.{occurrence_in}
use Rattle.elem_rules.specs.Rows.{composite_usage, shown_repetition}
use Rattle.elem_rules.specs.Found.{up_to, occurrence_found}
use Rattle.elem_rules.proofs.element.check_composite_occurrences.Given as goal

abbrev pub invariant-loop-n : goal.invariant-loop-n
invariant-loop-n l = record {
  left : l.parts ≡ drop l.n (occurrences l.at.delims l.at.text.now);
  found : l.found ≡ l.initial.found
      ++ up_to (λ n. occurrence_found l.at.delims l.at.element
      (shown_repetition (composite_usage l.row) n) l.row.reference true l.row.components (occurrence_in l.at.delims l.at.text.now n))
      l.n;
}
