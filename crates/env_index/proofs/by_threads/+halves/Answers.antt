use Rattle.std.proofs.Common.{◌≡◌, ◌++◌, ℕ, List, rules, subst}
use Rattle.std.specs.Prelude.{IfOk}
use Rattle.std.proofs.lemmas.Result.{IfOk-at_ok}
use Rattle.env_marks.specs.Marking.{MarksValue}
use Rattle.isa_scan.specs.declared.heads.HeadAt.{HeadAt}
use Rattle.env_index.specs.Shares.{IsReadAt, IsShare, ShareValue}
use Rattle.env_index.proofs.by_threads.+halves.Goals as goal

pub join-first-requires-after_bounds : goal.join-first-requires-after_bounds
join-first-requires-after_bounds g t c κs within =
    let text : List ℕ = c.args.text.now in
    let marks : List MarksValue = c.args.marks.now in
    let low : IsShare text c.args.from c.halve-cut.result.low.now marks = c.halve-cut.ensures.low text c.args.from marks c.requires.share in
    let high : IsShare text c.halve-cut.result.cut c.halve-cut.result.high.now marks =
    c.halve-cut.ensures.high text c.args.from marks c.requires.share in
    search (rules, low, high)

pub join_shares-requires-clause-high : goal.join_shares-requires-clause-high
join_shares-requires-clause-high g t c = c.halve-cut.ensures.high c.args.text.now c.args.from c.args.marks.now c.requires.share

pub returns : goal.returns
returns g t c =
    let text : List ℕ = c.args.text.now in
    let from : ℕ = c.args.from in
    let low : List HeadAt = c.halve-cut.result.low.now in
    let first = IfOk-at_ok (λ share. IsReadAt text from low share) c.in_ok-first.was c.join-first.ensures.first in
    let none = c.halve-cut.ensures.none text from c.in_ok-first.field-0 c.requires.share.listed first in
    subst (λ (heads : List HeadAt). IfOk c.join_shares.result (λ share. IsReadAt text from heads share)) c.halve-cut.ensures.all
    (c.join_shares.ensures from low first none)
