-- The limits of guides and of texts (own), by their values.
use Rattle.std.proofs.Common.{◌≡◌, refl}
use Rattle.hub_kinds.specs.declared.fault.TheConstants.{NO_NUMBER}
use Rattle.hub_kinds.specs.declared.limits.TheConstants.{MOST_ELEMENTS, MOST_COMPONENTS, MOST_REPEATS, MOST_NODES, LONGEST_TEXT}
use Rattle.hub_kinds.specs.declared.limits.TheConstants.{MOST_CONTROL_DIGITS, MOST_COUNT_DIGITS}

most_elements : MOST_ELEMENTS ≡ 40
most_elements = refl

most_components : MOST_COMPONENTS ≡ 20
most_components = refl

most_repeats : MOST_REPEATS ≡ 999
most_repeats = refl

most_nodes : MOST_NODES ≡ 2000
most_nodes = refl

most_control_digits : MOST_CONTROL_DIGITS ≡ 9
most_control_digits = refl

most_count_digits : MOST_COUNT_DIGITS ≡ 6
most_count_digits = refl

longest_text : LONGEST_TEXT ≡ 4294967295
longest_text = refl

no_number : NO_NUMBER ≡ 0
no_number = refl
