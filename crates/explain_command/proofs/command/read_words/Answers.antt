use Rattle.std.proofs.Common.{map}
use Rattle.std.proofs.lemmas.Result.{IfErr-weaker, IfOk-weaker}
use Rattle.clap.specs.Words.{app_of}
use Rattle.program_frame.proofs.ForAbove.{values_matched}
use Rattle.explain_command.specs.CommandLine.{explain_app}
use Rattle.explain_command.proofs.CommandLine.{asked, none_named}
use Rattle.explain_command.proofs.command.read_words.Goals as goal

pub returns-in-Values-clause-asked : goal.returns-in-Values-clause-asked
returns-in-Values-clause-asked g c =
    let words = map g.S.AsStr.text c.args.words.now in
    let has = values_matched (app_of c.in_ok-command.command) explain_app words c.in_ok-values.field-0 c.in-Values.values
    c.in_ok-command.ensures c.in-Values.is c.in_ok-values.ensures.matched in
    IfOk-weaker c.files_asked.result _ _ (λ a given. asked words c.in-Values.values a has given) c.files_asked.ensures.given

pub returns-in-Values-clause-usage : goal.returns-in-Values-clause-usage
returns-in-Values-clause-usage g c =
    let words = map g.S.AsStr.text c.args.words.now in
    let has = values_matched (app_of c.in_ok-command.command) explain_app words c.in_ok-values.field-0 c.in-Values.values
    c.in_ok-command.ensures c.in-Values.is c.in_ok-values.ensures.matched in
    IfErr-weaker c.files_asked.result _ _ (λ x is usage line. line.named (none_named words c.in-Values.values has (is usage)))
    c.files_asked.ensures.usage
