use Rattle.std.proofs.Common.{option_map, subst}
use Rattle.std.specs.List.{All}
use Rattle.std.proofs.lemmas.Result.{IfOk-weaker}
use Rattle.x12_bytes.specs.Header.{header_delims}
use Rattle.guide_tree.specs.Words.{guide_of}
use Rattle.env_index.specs.Words.{InterchangeEntry}
use Rattle.learn_judge.specs.Indexed.{TakesGroupIn}
use Rattle.learn_judge.proofs.judge.unmet_in_entry.Goals as goal

pub returns : goal.returns
returns c =
    let guide = guide_of c.args.guide.now in
    let st01 = option_map (λ t. t.now) c.args.st01 in
    IfOk-weaker c.unmet_in_interchange.result _ _
    (λ found takes none fault.
    subst (λ (x : InterchangeEntry). All (TakesGroupIn guide st01 c.args.text.now (header_delims x.header)) x.content.groups)
    c.interchange.ensures.value (takes none)) c.unmet_in_interchange.ensures
