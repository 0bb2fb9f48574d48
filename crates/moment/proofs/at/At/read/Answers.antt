use Rattle.std.proofs.Common.{sym, subst, ◌∙◌}
use Rattle.moment.specs.Moment.{IsMoment}
use Rattle.moment.proofs.Moments.{moment_from, moment_to}
use Rattle.moment.proofs.at.At.read.Goals as goal

pub returns-then-not-is_moment-clause-found : goal.returns-then-not-is_moment-clause-found
returns-then-not-is_moment-clause-found c =
    (λ h. cc, λ h. let m = moment_to c.args.text.now h in cc)

pub invariant_of-result : goal.invariant_of-result
invariant_of-result c = subst IsMoment (sym c.copy_from_slice.ensures.after)
    (moment_from c.args.text.now (sym c.is_moment.ensures ∙ c.if-not-is_moment.false))

pub returns-clause-found : goal.returns-clause-found
returns-clause-found c = (λ h. moment_from c.args.text.now (sym c.is_moment.ensures ∙ c.if-not-is_moment.false), λ h. cc)
