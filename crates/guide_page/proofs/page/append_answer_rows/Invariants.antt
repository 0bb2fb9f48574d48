use Rattle.std.proofs.Common.{◌≡◌, ◌++◌, drop}
use Rattle.std.specs.List.{flat_map}
use Rattle.guide_page.specs.Page.{answer_row}
use Rattle.guide_page.proofs.page.append_answer_rows.Given as goal

abbrev pub invariant-loop-i : goal.invariant-loop-i
invariant-loop-i l = l.out.items ++ flat_map answer_row (drop l.i l.answers) ≡ l.initial.out.items ++ flat_map answer_row l.answers
