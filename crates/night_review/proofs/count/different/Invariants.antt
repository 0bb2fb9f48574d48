use Rattle.std.proofs.Common.{◌≡◌, ◌≤◌, ◌+◌, [], ℕ, List, drop, map, take}
use Rattle.std.specs.Prelude.{is_some, reverse}
use Rattle.std.specs.BTreeMap.{get_by}
use Rattle.std.specs.Cmp.Lexicographic.{slice_cmp}
use Rattle.std.specs.Ordering.{nat_cmp}
use Rattle.hub_kinds.specs.Words.{contains_text}
use Rattle.night_review.specs.Count.{different}
use Rattle.night_review.proofs.count.different.Given as goal

abbrev pub invariant-loop-i : goal.invariant-loop-i
invariant-loop-i l = record {
  seen : (q : List ℕ) → is_some (get_by (λ k. slice_cmp nat_cmp q k.now) l.seen)
      ≡ contains_text (reverse (map (λ t. t.now) (take l.i l.texts))) q;
  counted : l.found + different (reverse (map (λ t. t.now) (take l.i l.texts))) (map (λ t. t.now) (drop l.i l.texts))
      ≡ different [] (map (λ t. t.now) l.texts);
  few : l.found ≤ l.i;
}
