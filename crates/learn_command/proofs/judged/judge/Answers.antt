use Rattle.std.specs.Prelude.{option_map}
use Rattle.std.proofs.lemmas.Result.{IfOk-weaker}
use Rattle.learn_command.proofs.Learning.{described}
use Rattle.learn_command.proofs.judged.judge.Goals as goal

pub returns-in-Taken-clause-takes : goal.returns-in-Taken-clause-takes
returns-in-Taken-clause-takes c =
    IfOk-weaker c.judge_files.result _ _
    (λ done all. described c.guide_bytes_are_one.ensures c.args.text.now c.in_ok-words.field-0 c.in-Taken.guide c.in-Taken.is
    c.in_ok-words.ensures c.args.files.now (option_map (λ t. t.now) c.args.st01) all) c.judge_files.ensures.takes
