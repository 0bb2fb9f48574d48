use Rattle.std.proofs.Common.{◌≡◌, List, ℕ, drop}
use Rattle.std.specs.List.{list_all}
use Rattle.hub_kinds.specs.Words.{contains_text}
use Rattle.partner_setup.specs.Known.{KnowsPlaces}
use Rattle.partner_setup.proofs.judge.are_names.Given as goal

abbrev pub invariant-loop-name : goal.invariant-loop-name
invariant-loop-name l = (known : List (List ℕ)) → KnowsPlaces l.places 0 known
    → list_all (contains_text known) (drop l.name-index l.names) ≡ list_all (contains_text known) l.names
