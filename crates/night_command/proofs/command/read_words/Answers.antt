use Rattle.std.proofs.Common.{◌≡◌, ◌∙◌, ap, map, refl}
use Rattle.std.proofs.lemmas.Result.{IfErr-at_err, IfOk-weaker}
use Rattle.clap.specs.Words.{App, app_of, takes}
use Rattle.program_frame.proofs.ForAbove.{values_matched}
use Rattle.night_command.specs.CommandLine.{hub_app}
use Rattle.night_command.proofs.CommandLine.{all_given, asked}
use Rattle.night_command.proofs.command.read_words.Goals as goal

pub returns-in-Ok-Values-clause-asked : goal.returns-in-Ok-Values-clause-asked
returns-in-Ok-Values-clause-asked g c =
    let words = map g.S.AsStr.text c.args.words.now in
    let values = c.in-Ok-Values.values in
    let has = values_matched (app_of c.in_ok-command.command) hub_app words c.in-Ok-Values.field-0 values c.in_ok-command.ensures
    c.in-Ok-Values.field-0-is c.in-Ok-Values.ensures.matched in
    IfOk-weaker c.run_asked.result _ _ (λ a given. asked words values a has given) c.run_asked.ensures.given

pub returns-in-Ok-Values-clause-usage : goal.returns-in-Ok-Values-clause-usage
returns-in-Ok-Values-clause-usage g c usage line =
    let words = map g.S.AsStr.text c.args.words.now in
    let values = c.in-Ok-Values.values in
    let has = values_matched (app_of c.in_ok-command.command) hub_app words c.in-Ok-Values.field-0 values c.in_ok-command.ensures
    c.in-Ok-Values.field-0-is c.in-Ok-Values.ensures.matched in
    c.run_asked.ensures.usage usage (all_given words values has line.given)

pub returns-in-Err-clause-usage : goal.returns-in-Err-clause-usage
returns-in-Err-clause-usage g c usage line =
    let words = map g.S.AsStr.text c.args.words.now in
    let same = IfErr-at_err (λ x. c.of_mistake.result ≡ x) usage refl in
    c.in-Err.ensures.usage (c.of_mistake.ensures.usage same) (ap (λ (a : App). takes a words) c.in_ok-command.ensures ∙ line.taken)
