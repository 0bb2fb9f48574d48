use Rattle.std.proofs.Common.{◌≡◌, true, ◌∙◌, take, ap, sym}
use Rattle.std.proofs.lemmas.List.{take_rest}
use Rattle.moment.specs.Calendar.{is_time, is_date}
use Rattle.moment.proofs.Moments.{dated}
use Rattle.moment.proofs.at.is_moment.Goals as goal

pub returns-then-is_date : goal.returns-then-is_date
returns-then-is_date c =
    let text = c.args.text.now in
    let date : is_date (take 8 text) ≡ true = cc in
    c.is_time.ensures ∙ ap is_time (take_rest text 8) ∙ sym (dated text c.if-text-ne-MOMENT_LEN.false date)
