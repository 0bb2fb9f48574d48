use Rattle.std.proofs.Common.{◌≡◌, ◌++◌, drop}
use Rattle.guide_page.specs.Rules.{segment_codes}
use Rattle.guide_page.proofs.rules.append_segment_codes.Given as goal

abbrev pub invariant-loop-i : goal.invariant-loop-i
invariant-loop-i l = l.out.items ++ segment_codes (drop l.i l.codes) ≡ l.initial.out.items ++ segment_codes l.codes
