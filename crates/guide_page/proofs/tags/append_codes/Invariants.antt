use Rattle.std.proofs.Common.{◌≡◌, ◌++◌, drop}
use Rattle.std.specs.List.{flat_map}
use Rattle.guide_page.specs.Tags.{code_part}
use Rattle.guide_page.proofs.tags.append_codes.Given as goal

abbrev pub invariant-loop-i : goal.invariant-loop-i
invariant-loop-i l = l.out.items ++ flat_map code_part (drop l.i l.texts) ≡ l.initial.out.items ++ flat_map code_part l.texts
