use Rattle.std.proofs.Common.{◌≡◌, ◌++◌, [], drop}
use Rattle.std.specs.Option.{option_map_or}
use Rattle.x12_segs.specs.Words.{components}
use Rattle.elem_rules.specs.Divided.{component_in}
use Rattle.elem_rules.specs.Rows.{nth}
use Rattle.elem_rules.specs.Found.{up_to, component_found}
use Rattle.elem_rules.proofs.occurrence.check_components.Given as goal

abbrev pub invariant-loop-m : goal.invariant-loop-m
invariant-loop-m l = record {
  left : l.parts ≡ drop l.m (components l.at.delims l.at.text.now);
  found : l.found ≡ l.initial.found
      ++ up_to (λ m. option_map_or (λ row. component_found l.at.delims l.at.element l.at.repetition m row
      (component_in l.at.delims l.at.text.now m)) (nth l.rows m) []) l.m;
}
