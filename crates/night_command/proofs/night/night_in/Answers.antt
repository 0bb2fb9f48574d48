use Rattle.night_command.proofs.Files.{some_put, told_fault}
use Rattle.night_command.proofs.Running.{plain_is, run_is}
use Rattle.night_command.proofs.Sizes.{is_for_partners}
use Rattle.night_command.specs.Outcome.{IsNightOfSource, LeavesOutbox}
use Rattle.night_command.specs.declared.failure.Failure.{Failure}
use Rattle.night_command.proofs.night.night_in.Goals as goal

pub returns-clause-night : goal.returns-clause-night
returns-clause-night g c =
    let given = c.in_ok-night.ensures.night in
    record {
      text = given.text;
      told_all = given.told_all;
      within = given.few;
      definition = given.definition;
      run = run_is c.args.setup.now c.in_ok-night.night given.text c.args.at.now given.few given.definition;
      plain = plain_is c.file_references_are_plain.ensures c.args.setup.now;
    }

pub returns-in_err-put_night-clause-some : goal.returns-in_err-put_night-clause-some
returns-in_err-put_night-clause-some g c =
    let told = g.S.Source.remaining c.args.source.now in
    let setup = c.args.setup.now in
    let given = c.in_ok-night.ensures.night in
    let by : IsNightOfSource told setup c.args.at.now c.in_ok-night.night = record {
      text = given.text;
      told_all = given.told_all;
      within = given.few;
      definition = given.definition;
      run = run_is setup c.in_ok-night.night given.text c.args.at.now given.few given.definition;
      plain = plain_is c.file_references_are_plain.ensures setup;
    } in
    told_fault c.from_residual-in_err-put_night.result c.in_err-put_night.field-0.0
    (λ (failed : Failure). LeavesOutbox told setup c.args.at.now (g.B.Outbox.contents c.args.outbox.now)
    (g.B.Outbox.contents c.put_night.new.outbox) failed) c.from_residual-in_err-put_night.ensures.1
    (some_put told setup c.args.at.now _ _ c.in_ok-night.night c.in_err-put_night.field-0.0 by c.in_err-put_night.ensures.some)

pub put_night-requires-clause-partners : goal.put_night-requires-clause-partners
put_night-requires-clause-partners g c =
    let given = c.in_ok-night.ensures.night in
    is_for_partners c.args.setup.now c.in_ok-night.night given.text c.args.at.now given.definition
