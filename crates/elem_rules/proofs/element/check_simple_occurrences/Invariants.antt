use Rattle.std.proofs.Common.{◌≡◌, ◌++◌, [], ◌∷◌, drop, false}
use Rattle.guide_tree.specs.declared.element.Component.TheVariants as component
use Rattle.x12_segs.specs.Words.{occurrences}
use Rattle.elem_rules.specs.Divided.{occurrence_in}
use Rattle.elem_rules.specs.Rows.{simple_usage, shown_repetition}
use Rattle.elem_rules.specs.Found.{up_to, occurrence_found}
use Rattle.elem_rules.proofs.element.check_simple_occurrences.Given as goal

abbrev pub invariant-loop-n : goal.invariant-loop-n
invariant-loop-n l = record {
  left : l.parts ≡ drop l.n (occurrences l.at.delims l.at.text.now);
  found : l.found ≡ l.initial.found
      ++ up_to (λ n. occurrence_found l.at.delims l.at.element (shown_repetition (simple_usage l.row l.repeat) n) l.row.reference false
      (component.Simple l.row ∷ []) (occurrence_in l.at.delims l.at.text.now n)) l.n;
}
