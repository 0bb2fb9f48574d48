-- The limits of guides (own), by their values.
use Rattle.std.proofs.Common.{◌≡◌, refl}
use Rattle.guide_tree.specs.declared.limits.TheConstants.{MOST_NESTED, MOST_USES, LONGEST_ELEMENT}

most_nested : MOST_NESTED ≡ 8
most_nested = refl

most_uses : MOST_USES ≡ 999999
most_uses = refl

longest_element : LONGEST_ELEMENT ≡ 9999
longest_element = refl
