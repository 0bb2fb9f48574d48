use Rattle.std.proofs.Common.{◌∙◌, ap, map}
use Rattle.std.proofs.lemmas.Result.{IfErr-weaker, IfOk-weaker}
use Rattle.clap.specs.Words.{App, app_of, takes}
use Rattle.program_frame.proofs.ForAbove.{values_matched}
use Rattle.track_command.specs.CommandLine.{track_app}
use Rattle.track_command.proofs.CommandLine.{all_given, asked}
use Rattle.track_command.proofs.command.read_words.Goals as goal

pub returns-in-Ok-Values-clause-asked : goal.returns-in-Ok-Values-clause-asked
returns-in-Ok-Values-clause-asked g c =
    let words = map g.S.AsStr.text c.args.words.now in
    let values = c.in-Ok-Values.values in
    let has = values_matched (app_of c.in_ok-command.command) track_app words c.in-Ok-Values.field-0 values c.in_ok-command.ensures
    c.in-Ok-Values.field-0-is c.in-Ok-Values.ensures.matched in
    IfOk-weaker c.run_asked.result _ _ (λ a given. asked words values a has given) c.run_asked.ensures.given

pub returns-in-Ok-Values-clause-usage : goal.returns-in-Ok-Values-clause-usage
returns-in-Ok-Values-clause-usage g c =
    let words = map g.S.AsStr.text c.args.words.now in
    let values = c.in-Ok-Values.values in
    let has = values_matched (app_of c.in_ok-command.command) track_app words c.in-Ok-Values.field-0 values c.in_ok-command.ensures
    c.in-Ok-Values.field-0-is c.in-Ok-Values.ensures.matched in
    IfErr-weaker c.run_asked.result _ _ (λ failed so two line. so two (all_given words values has line.given)) c.run_asked.ensures.usage

pub returns-in-Err-clause-usage : goal.returns-in-Err-clause-usage
returns-in-Err-clause-usage g c two line =
    let words = map g.S.AsStr.text c.args.words.now in
    c.in-Err.ensures.usage (c.of_mistake.ensures.usage two) (ap (λ (a : App). takes a words) c.in_ok-command.ensures ∙ line.taken)
