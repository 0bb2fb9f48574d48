use Rattle.std.proofs.Common.{◌≡◌, ◌++◌, drop}
use Rattle.guide_tree.specs.Words.{nodes_view}
use Rattle.guide_warnings.specs.Dictionary.{dictionary_warnings}
use Rattle.guide_warnings.proofs.dictionary.push_dictionary.Given as goal

abbrev pub invariant-loop-i : goal.invariant-loop-i
invariant-loop-i l =
    l.found.items ++ dictionary_warnings (nodes_view l.nodes) (drop l.i l.ids)
    ≡ l.initial.found.items ++ dictionary_warnings (nodes_view l.nodes) l.ids
