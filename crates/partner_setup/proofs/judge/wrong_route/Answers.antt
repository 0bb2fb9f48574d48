use Rattle.std.proofs.Common.{not, sym, ap, ◌∙◌, arith}
use Rattle.partner_setup.specs.SetupFaults.{is_route}
use Rattle.partner_setup.specs.declared.rows.RouteRow.{RouteRow}
use Rattle.partner_setup.proofs.FirstRow.{no_row_found, row_found}
use Rattle.partner_setup.proofs.judge.wrong_route.Goals as goal

pub returns-then-not-branch : goal.returns-then-not-branch
returns-then-not-branch c ps knows =
    row_found (λ (r : RouteRow). not (is_route ps r)) c.args.routes.now c.loop-i.i c.index-routes-i.result _ c.loop-i-test.true
    c.index-routes-i.is (ap not (sym (c.in_ok-is_route.ensures ps knows) ∙ c.if-not-branch.true)) (c.loop-i.invariant ps knows)

pub returns : goal.returns
returns c ps knows =
    let done = c.loop-i-test.false in
    no_row_found (λ (r : RouteRow). not (is_route ps r)) c.args.routes.now c.loop-i.i _ (omega (arith, done))
    (c.loop-i.invariant ps knows)
