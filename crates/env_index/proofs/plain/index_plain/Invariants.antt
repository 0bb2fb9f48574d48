use Rattle.std.proofs.Common.{◌≡◌, ◌≤◌, ◌++◌, ◌+◌, ◌-◌, List, length}
use Rattle.std.specs.List.{All}
use Rattle.env_index.specs.Extents.{Extent, Chain, ChainFrom, count_outside}
use Rattle.env_index.specs.Index.{IsEntryOf, extents_of}
use Rattle.env_index.proofs.plain.index_plain.Given as goal

abbrev pub invariant-loop-interchanges : goal.invariant-loop-interchanges
invariant-loop-interchanges l = record {
  inside : l.at ≤ length l.text;
  few : l.outside ≤ l.at;
  many : length l.interchanges.items ≤ l.at;
  entries : All (IsEntryOf l.text) l.interchanges.items;
  chain : (xs : List Extent) → ChainFrom l.text l.at xs → Chain l.text (extents_of l.interchanges.items ++ xs);
  counted : (xs : List Extent) → count_outside l.text 0 (extents_of l.interchanges.items ++ xs)
      ≡ l.outside + count_outside l.text l.at xs;
}

abbrev pub decreases-loop-interchanges : goal.decreases-loop-interchanges
decreases-loop-interchanges l = length l.text - l.at
