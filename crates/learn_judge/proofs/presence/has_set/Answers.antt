use Rattle.std.proofs.Common.{List, option_map, subst}
use Rattle.std.specs.List.{Any}
use Rattle.env_index.specs.Words.{IndexEntry}
use Rattle.learn_judge.specs.Indexed.{EntryHasSet}
use Rattle.learn_judge.proofs.Asked.{text_has}
use Rattle.learn_judge.proofs.presence.has_set.Goals as goal

pub returns : goal.returns
returns c asked =
    let st01 = option_map (λ t. t.now) c.args.st01 in
    text_has st01 c.texts_are_indexes.ensures c.interchanges_are_kept.ensures c.faults_are_one.ensures c.args.text.now
    c.in_ok-index.index c.in_ok-index.ensures
    (subst (λ (es : List IndexEntry). Any (EntryHasSet st01) es) c.interchanges.ensures.value (c.is_in_entries.ensures asked))
