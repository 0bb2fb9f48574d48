use Rattle.std.proofs.Common.{◌+◌, ◌-◌, ℕ, List, Option, drop, length, take, sym, ap, subst, arith}
use Rattle.std.proofs.lemmas.Result.{IfOk-weaker}
use Rattle.whole_interchanges.specs.Scouting.{Advances, IsInside, Stands}
use Rattle.whole_interchanges.specs.declared.scout.Advanced.{Advanced}
use Rattle.whole_interchanges.specs.declared.scout.Inside.{Inside}
use Rattle.gather_files.specs.Gathered.{HoldsInterchanges}
use Rattle.gather_files.specs.Closing.{IsClosedSo, StaysApart}
use Rattle.gather_files.proofs.Keeps.{holds_inside}
use Rattle.gather_files.proofs.OpenEnds.{ends_open, stays, untouched}
use Rattle.gather_files.proofs.Untouched.{inside_all}
use Rattle.gather_files.proofs.closing.close.Goals as goal

pub as_it_is-requires-in-Some-clause-holds : goal.as_it_is-requires-in-Some-clause-holds
as_it_is-requires-in-Some-clause-holds c =
    let held : List ℕ = c.args.held.now in
    let a : Advanced = c.from_the_front-count.result in
    let advances : Advances held 0 a = c.from_the_front-count.ensures in
    let stands : IsInside held a.scout.at c.in-Some.inside =
    subst (λ (o : Option Inside). Stands held a.scout.at o) c.in-Some.is advances.stands in
    subst (HoldsInterchanges held) (ap (λ (n : ℕ). n + 1) (sym advances.count))
    (holds_inside held a.scout.at advances.whole c.in-Some.inside advances.chain stands c.if-inside-held.true)

pub returns-in-Some-last_open-clause-closed : goal.returns-in-Some-last_open-clause-closed
returns-in-Some-last_open-clause-closed c =
    IfOk-weaker c.terminated.result _ (IsClosedSo c.args.held.now (take c.args.kept c.args.held.now))
    (λ closed was. was c.args.held.now) c.terminated.ensures

pub returns-in-Some-last_open-clause-apart : goal.returns-in-Some-last_open-clause-apart
returns-in-Some-last_open-clause-apart c =
    IfOk-weaker c.terminated.result _ (StaysApart c.args.held.now)
    (λ closed was apart. absurd (omega (
      arith,
      c.if-inside-held.false,
      inside_all c.args.held.now c.from_the_front-count.result c.from_the_front-count.ensures c.in-Some.inside c.in-Some.is apart,
    )))
    c.terminated.ensures

pub returns-in-None-last_open-clause-apart : goal.returns-in-None-last_open-clause-apart
returns-in-None-last_open-clause-apart c =
    IfOk-weaker c.spaced.result _ (StaysApart c.args.held.now)
    (λ closed was apart. absurd (omega (
      arith,
      c.if-inside-held.false,
      inside_all c.args.held.now c.from_the_front-count.result c.from_the_front-count.ensures c.in-Some.inside c.in-Some.is apart,
    )))
    c.spaced.ensures

pub as_it_is-requires-in-Some-clause-ends : goal.as_it_is-requires-in-Some-clause-ends
as_it_is-requires-in-Some-clause-ends c =
    ends_open c.args.held.now c.args.held.now 0 c.from_the_front-count.result c.in-Some.inside c.open_end-end.result
    c.from_the_front-count.ensures c.in-Some.is c.open_end-end.ensures.value

pub returns-in-Some-clause-apart : goal.returns-in-Some-clause-apart
returns-in-Some-clause-apart c =
    let at : ℕ = c.from_the_front-count.result.scout.at in
    stays c.args.held.now c.as_it_is-in-Some.result c.open_end-end.result c.as_it_is-in-Some.ensures.untouched
    c.as_it_is-in-Some.ensures.told
    (untouched c.in-Some.inside.delims (take (length c.args.held.now - at) (drop at c.args.held.now)) c.open_end-end.result
    c.open_end-end.ensures.value)
