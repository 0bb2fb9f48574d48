use Rattle.std.proofs.Common.{◌≡◌, ◌++◌, drop}
use Rattle.std.specs.List.{flat_map}
use Rattle.guide_page.specs.Rules.{pair_item}
use Rattle.guide_page.proofs.rules.append_pair_items.Given as goal

abbrev pub invariant-loop-i : goal.invariant-loop-i
invariant-loop-i l = l.out.items ++ flat_map pair_item (drop l.i l.pairs) ≡ l.initial.out.items ++ flat_map pair_item l.pairs
