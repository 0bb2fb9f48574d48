use Rattle.std.proofs.lemmas.Result.{IfOk-weaker}
use Rattle.page_command.specs.CommandLine.{names_of}
use Rattle.page_command.proofs.Sampling.{at}
use Rattle.page_command.proofs.run.page_at.Goals as goal

pub returns-in-Taken-clause-page : goal.returns-in-Taken-clause-page
returns-in-Taken-clause-page g c =
    IfOk-weaker c.page_with_names.result _ _ (λ made page. at c.args.paths.now.guide.now (names_of c.args.paths.now) made.text.items _
    c.in-Taken.guide c.in-Taken.is c.in_ok-text.ensures page) c.page_with_names.ensures.page
