use Rattle.std.proofs.Common.{◌≡◌, ◌++◌, List, ℕ, drop}
use Rattle.partner_setup.specs.Known.{KnowsPlaces}
use Rattle.partner_setup.specs.Names.{places_of_texts}
use Rattle.partner_setup.proofs.judge.places_of.Given as goal

abbrev pub invariant-loop-name : goal.invariant-loop-name
invariant-loop-name l = (known : List (List ℕ)) → KnowsPlaces l.places 0 known
    → l.found.items ++ places_of_texts known (drop l.name-index l.names) ≡ places_of_texts known l.names
