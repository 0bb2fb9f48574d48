use Rattle.std.proofs.Common.{◌++◌, ℕ, [], ◌∷◌, List, ap, sym, arith, ◌∙◌}
use Rattle.std.proofs.lemmas.List.FromFn.{map-range_with_len_more}
use Rattle.count_numbers.specs.Tally.{PartnerTally, tally_of}
use Rattle.count_numbers.specs.Tallies.{entries_for}
use Rattle.count_numbers.proofs.tallies.Tallies.new.Goals as goal

pub loop-place-preserved : goal.loop-place-preserved
loop-place-preserved c =
    let none : ℕ → PartnerTally = λ place. tally_of (entries_for place []) in
    let more = sym (map-range_with_len_more none 0 c.loop-place._place c.loop-place._place (omega arith)) in
    c.in_ok-push.ensures.items
    ∙ ap (λ (t : PartnerTally). c.loop-place.list.items ++ t ∷ []) c.new.ensures.value
    ∙ ap (λ (ts : List PartnerTally). ts ++ none c.loop-place._place ∷ []) c.loop-place.invariant
    ∙ more
