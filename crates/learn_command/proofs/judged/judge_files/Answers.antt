use Rattle.std.proofs.Common.{arith, get_or, subst, sym, take}
use Rattle.std.specs.List.{All}
use Rattle.std.specs.Prelude.{option_map}
use Rattle.std.proofs.lemmas.List.{take_all, take_more}
use Rattle.std.proofs.lemmas.List.Elements.{All-push}
use Rattle.guide_tree.specs.Words.{guide_of}
use Rattle.learn_command.specs.Outcome.{IsTakenFile}
use Rattle.learn_command.proofs.judged.judge_files.Goals as goal

pub loop-file-preserved : goal.loop-file-preserved
loop-file-preserved c =
    let taken = IsTakenFile (guide_of c.args.guide.now) (option_map (λ t. t.now) c.args.st01) in
    let files = c.args.files.now in
    let i = c.loop-file.file-index in
    let file = c.file-item.result in
    subst (All taken) (sym (take_more files i file c.loop-file-test.true))
    (All-push taken (take i files) (get_or files i file) c.loop-file.invariant
    (subst taken c.file-item.is c.in_ok-judge_file.ensures.takes))

pub returns-clause-takes : goal.returns-clause-takes
returns-clause-takes c =
    let taken = IsTakenFile (guide_of c.args.guide.now) (option_map (λ t. t.now) c.args.st01) in
    subst (All taken) (take_all c.loop-file.file-index c.args.files.now (omega (arith, c.loop-file-test.false))) c.loop-file.invariant
