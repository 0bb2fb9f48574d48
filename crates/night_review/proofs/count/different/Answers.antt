use Rattle.std.proofs.Common.{[], ◌≡◌, ◌∙◌, ◌+◌, ap, ℕ, List, arith, drop, get_or, map, refl, subst, sym, take}
use Rattle.std.specs.Prelude.{is_some, reverse}
use Rattle.std.specs.Borrow.{Bor}
use Rattle.std.specs.BTreeMap.{get_by}
use Rattle.std.specs.Cmp.Lexicographic.{slice_cmp}
use Rattle.std.specs.Ordering.{nat_cmp}
use Rattle.hub_kinds.specs.Words.{contains_text}
use Rattle.night_review.specs.Count.{different}
use Rattle.night_review.proofs.Counting.{counted_more, seen_more, taken_back}
use Rattle.night_review.proofs.count.different.Goals as goal

pub loop-i-preserved : goal.loop-i-preserved
loop-i-preserved c =
    let lent : List (Bor (List ℕ)) = c.args.texts.now in
    let d : Bor (List ℕ) = record { ref_ptr = (0, 0); now = [] } in
    let text : Bor (List ℕ) = get_or lent c.loop-i.i d in
    let seen : List (List ℕ) = reverse (map (λ (t : Bor (List ℕ)). t.now) (take c.loop-i.i lent)) in
    let back = taken_back lent c.loop-i.i text d (omega (arith)) refl in
    record {
      seen = subst (λ (texts : List (List ℕ)). (q : List ℕ)
          → is_some (get_by (λ k. slice_cmp nat_cmp q k.now) c.insert.new.self) ≡ contains_text texts q) (sym back)
          (seen_more c.loop-i.seen c.insert.new.self text.now text seen c.in_ok-insert.ensures.updates c.loop-i.invariant.seen);
      counted = subst (λ (texts : List (List ℕ)). c.loop-i.found + c.one_unless-found.result
          + different texts (map (λ (t : Bor (List ℕ)). t.now) (drop (c.loop-i.i + 1) lent))
          ≡ different [] (map (λ (t : Bor (List ℕ)). t.now) lent)) (sym back)
          (counted_more c.loop-i.found (c.loop-i.found + c.one_unless-found.result) seen lent c.loop-i.i text d
          (different [] (map (λ (t : Bor (List ℕ)). t.now) lent)) c.contains_key.result (omega (arith)) refl
          (c.contains_key.ensures ∙ c.loop-i.invariant.seen text.now) (ap (λ (n : ℕ). c.loop-i.found + n) c.one_unless-found.ensures.value)
          c.loop-i.invariant.counted);
      few = omega (arith, c.one_unless-found.ensures.few, c.loop-i.invariant.few);
    }
