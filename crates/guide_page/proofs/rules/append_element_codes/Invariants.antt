use Rattle.std.proofs.Common.{◌≡◌, ◌++◌, drop}
use Rattle.guide_page.specs.Rules.{element_codes}
use Rattle.guide_page.proofs.rules.append_element_codes.Given as goal

abbrev pub invariant-loop-i : goal.invariant-loop-i
invariant-loop-i l = l.out.items ++ element_codes (drop l.i l.codes) ≡ l.initial.out.items ++ element_codes l.codes
