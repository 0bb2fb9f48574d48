use Rattle.std.proofs.Common.{◌∙◌, ap, map, sym}
use Rattle.std.proofs.lemmas.Result.{IfErr-weaker, IfOk-weaker}
use Rattle.clap.specs.Words.{App, app_of, takes}
use Rattle.program_frame.proofs.ForAbove.{values_matched}
use Rattle.program_frame.specs.Mistake.{IsUsage}
use Rattle.hub_archive.specs.CommandLine.{IsCommandLine, archive_app}
use Rattle.hub_archive.proofs.CommandLine.{asked, handed_on, same}
use Rattle.hub_archive.proofs.command.read_words.Goals as goal

pub returns-in_err-values-clause-usage : goal.returns-in_err-values-clause-usage
returns-in_err-values-clause-usage g c =
    let words = map g.S.AsStr.text c.args.words.now in
    handed_on c.from_residual-in_err-values.result c.in_err-values.field-0.0 (λ m. IsUsage m → IsCommandLine words → ⊥)
    c.from_residual-in_err-values.ensures.1
    (λ usage line. c.in_err-values.ensures.usage usage (ap (λ (a : App). takes a words) c.in_ok-command.ensures ∙ line.taken))

pub returns-in-Values-clause-asked : goal.returns-in-Values-clause-asked
returns-in-Values-clause-asked g c =
    let words = map g.S.AsStr.text c.args.words.now in
    let has = values_matched (app_of c.in_ok-command.command) archive_app words c.in_ok-values.field-0 c.in-Values.values
    c.in_ok-command.ensures c.in-Values.is c.in_ok-values.ensures.matched in
    IfOk-weaker c.options_given.result _ _ (λ a given. asked words c.in-Values.values a has given) c.options_given.ensures.given

pub returns-in-Values-clause-usage : goal.returns-in-Values-clause-usage
returns-in-Values-clause-usage g c =
    let words = map g.S.AsStr.text c.args.words.now in
    let has = values_matched (app_of c.in_ok-command.command) archive_app words c.in_ok-values.field-0 c.in-Values.values
    c.in_ok-command.ensures c.in-Values.is c.in_ok-values.ensures.matched in
    IfErr-weaker c.options_given.result _ _ (λ x is usage line. line.asked (sym (same words c.in-Values.values has) ∙ is usage))
    c.options_given.ensures.usage
