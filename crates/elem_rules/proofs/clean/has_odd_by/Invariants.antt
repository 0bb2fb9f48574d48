use Rattle.std.proofs.Common.{◌≡◌, take}
use Rattle.std.specs.List.{list_any}
use Rattle.elem_rules.specs.Clean.{is_odd_by}
use Rattle.elem_rules.proofs.clean.has_odd_by.Given as goal

-- what is found is what the bytes so far have
abbrev pub invariant-loop-i : goal.invariant-loop-i
invariant-loop-i l = l.found ≡ list_any (is_odd_by l.component l.separator) (take l.i l.text)
