use Rattle.std.proofs.Common.{map, length, List, ◌≡◌, ap, sym, ◌∙◌}
use Rattle.std.specs.Vec.Iter.{into_iter_items, into_iter_len}
use Rattle.std.proofs.lemmas.Iterator.{YieldsList-from_zip}
use Rattle.std.proofs.lemmas.Iterator.Adapters.{YieldsList-from_vec}
use Rattle.std.proofs.lemmas.Iterator.Consumers.{YieldsList-end}
use Rattle.std.proofs.lemmas.List.{map-id}
use Rattle.count_numbers.specs.Tally.{PartnerTally, joined}
use Rattle.count_numbers.specs.Tallies.{all_joined}
use Rattle.count_numbers.proofs.Counting.{joined_pairs}
use Rattle.count_numbers.proofs.tallies.Tallies.append.Goals as goal

pub returns : goal.returns
returns c =
    let front = c.self.inside.list.items in
    let back = c.back.inside.list.items in
    let pairs = c.into_iter-tally-iterator.result in
    let both : PartnerTally × PartnerTally → PartnerTally = λ p. joined p.0 p.1 in
    let front_is : into_iter_items pairs.a ≡ front = cc in
    let front_len : into_iter_len pairs.a ≡ length front = cc in
    let back_is : into_iter_items pairs.b ≡ back = cc in
    let back_len : into_iter_len pairs.b ≡ length back = cc in
    let told =
    YieldsList-end (YieldsList-from_zip {s = pairs} (YieldsList-from_vec {s = pairs.a} front front_is front_len)
    (YieldsList-from_vec {s = pairs.b} back back_is back_len)) c.loop-tally.yielded c.loop-tally.tally-iterator c.loop-tally.yielded_by
    c.next.result c.next.new.self c.in-None.is c.next.ensures.steps in
    c.loop-tally.invariant
    ∙ ap (map both) (sym (map-id c.loop-tally.yielded) ∙ told.0)
    ∙ joined_pairs front back
    ∙ ap (λ (ts : List PartnerTally). all_joined ts back) c.self.view_is
    ∙ ap (all_joined c.args.self) c.back.view_is
