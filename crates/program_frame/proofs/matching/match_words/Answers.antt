use Rattle.std.proofs.Common.{map}
use Rattle.std.proofs.lemmas.Result.{IfErr-weaker, IfOk-weaker}
use Rattle.clap.specs.Words.{app_of}
use Rattle.program_frame.proofs.TextAsked.{text_matched}
use Rattle.program_frame.proofs.matching.match_words.Goals as goal

pub returns-in-Err-clause-matched : goal.returns-in-Err-clause-matched
returns-in-Err-clause-matched g c =
    IfOk-weaker c.text_asked.result _ _
    (λ m is. text_matched (app_of c.args.command) (map g.S.AsStr.text c.args.words.now) c.in-Err.error m
    (c.in-Err.ensures.kinds c.requires) c.in-Err.ensures.passes is) c.text_asked.ensures.text

pub returns-in-Err-clause-usage : goal.returns-in-Err-clause-usage
returns-in-Err-clause-usage g c =
    IfErr-weaker c.text_asked.result _ _ (λ x is usage taken. is usage (c.in-Err.ensures.passes taken)) c.text_asked.ensures.usage
