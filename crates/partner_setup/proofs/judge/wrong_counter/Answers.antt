use Rattle.std.proofs.Common.{not, sym, ap, ◌∙◌, arith}
use Rattle.partner_setup.specs.SetupFaults.{counts_for}
use Rattle.partner_setup.specs.declared.rows.CounterRow.{CounterRow}
use Rattle.partner_setup.proofs.FirstRow.{no_row_found, row_found}
use Rattle.partner_setup.proofs.judge.wrong_counter.Goals as goal

pub returns-then-not-counts_for : goal.returns-then-not-counts_for
returns-then-not-counts_for c ps knows =
    row_found (λ (r : CounterRow). not (counts_for ps r)) c.args.rows.now c.loop-i.i c.index-rows-i.result _ c.loop-i-test.true
    c.index-rows-i.is (ap not (sym (c.counts_for.ensures ps knows) ∙ c.if-not-counts_for.true)) (c.loop-i.invariant ps knows)

pub returns : goal.returns
returns c ps knows =
    let done = c.loop-i-test.false in
    no_row_found (λ (r : CounterRow). not (counts_for ps r)) c.args.rows.now c.loop-i.i _ (omega (arith, done))
    (c.loop-i.invariant ps knows)
