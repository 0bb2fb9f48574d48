use Rattle.std.proofs.Common.{◌≡◌, length, rules}
use Rattle.std.specs.Prelude.{vec_len}
use Rattle.night_review.proofs.Last.{popped}
use Rattle.night_review.proofs.nights.last_of.Goals as goal

pub returns : goal.returns
returns c =
    let long : vec_len c.args.marks ≡ length c.args.marks.items = search rules in
    popped c.args.marks.items c.pop.new.self.items c.pop.result _ _ long c.pop.ensures.items c.pop.ensures.cases
