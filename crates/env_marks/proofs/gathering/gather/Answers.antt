use Rattle.std.proofs.Common.{◌∙◌}
use Rattle.env_marks.proofs.Gathered.{gathered, split_first}
use Rattle.env_marks.proofs.gathering.gather.Goals as goal

pub returns : goal.returns
returns g c =
    λ under items plan is_plan l e.
    let first = c.remove-first.result in
    let rest = c.remove-first.new.self.items in
    let whole = split_first c.args.list.items rest first c.requires c.remove-first.ensures.value c.remove-first.ensures.items in
    c.in_ok-all.ensures {u = tt}
    ∙ gathered g.met.P.Piecewise.laws under items plan.places plan.text_len first rest l is_plan.rises is_plan.inside (whole ∙ e)
