use Rattle.std.proofs.Common.{◌≡◌, ℕ, List, length, refl, sym, subst}
use Rattle.isa_scan.specs.Heads.{heads_in}
use Rattle.env_index.specs.Shares.{IsReadAt, ShareValue}
use Rattle.env_index.proofs.HeadShares.{none_after_all}
use Rattle.env_index.proofs.Indexing.{chain_ends}
use Rattle.env_index.proofs.Sharing.{read_to_end}
use Rattle.env_index.proofs.share.Share.into_index.Goals as goal

pub returns : goal.returns
returns c =
    let text : List ℕ = c.args.text.now in
    let share : ShareValue =
    record { entries = c.self.inside.interchanges.items; outside = c.self.inside.outside; end = c.self.inside.end } in
    let all : IsReadAt text 0 (heads_in text 0 (length text)) share =
    subst (IsReadAt text 0 (heads_in text 0 (length text))) (sym c.self.view_is) c.requires.all in
    let none = none_after_all text share all in
    record {
      same = refl;
      chain = chain_ends text share.entries share.end none all.chain;
      entries = all.entries;
      outside = read_to_end text (heads_in text 0 (length text)) share c.count_others.result all none c.count_others.ensures;
    }
