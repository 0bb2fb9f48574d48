use Rattle.std.proofs.Common.{List, option_map, subst}
use Rattle.std.specs.List.{All}
use Rattle.std.proofs.lemmas.Result.{IfOk-weaker}
use Rattle.guide_tree.specs.Words.{guide_of}
use Rattle.env_index.specs.Words.{IndexEntry}
use Rattle.learn_judge.specs.Indexed.{TakesEntry}
use Rattle.learn_judge.proofs.Taking.{text_taken}
use Rattle.learn_judge.proofs.judge.unmet_of.Goals as goal

pub returns : goal.returns
returns c =
    let guide = guide_of c.args.guide.now in
    let st01 = option_map (λ t. t.now) c.args.st01 in
    IfOk-weaker c.unmet_in_text.result _ _
    (λ found takes none. text_taken c.meetings_are_one.ensures c.args.guide.now c.rows-rows.ensures.accepted st01 c.args.text.now
    c.texts_are_indexes.ensures c.interchanges_are_kept.ensures c.faults_are_one.ensures c.sets_are_parts.ensures c.in_ok-index.index
    c.in_ok-index.ensures
    (subst (λ (es : List IndexEntry). All (TakesEntry guide st01 c.args.text.now) es) c.interchanges.ensures.value (takes none)))
    c.unmet_in_text.ensures
