use Rattle.std.proofs.Common.{◌≡◌, List, rules, subst, ◌∙◌}
use Rattle.isa_scan.specs.declared.heads.HeadAt.{HeadAt}
use Rattle.env_index.specs.Shares.{IsReadAt, IsShare}
use Rattle.env_index.proofs.HeadShares.{whole_share}
use Rattle.env_index.proofs.by_threads.index_by_threads.Goals as goal

pub read_share_by-requires-clause-share : goal.read_share_by-requires-clause-share
read_share_by-requires-clause-share g c =
    let share : IsShare c.args.text.now 0 c.list.result.now c.args.marks.now =
    whole_share c.args.text.now c.list.result.now c.args.marks.now c.requires.few (c.list.ensures ∙ c.requires.heads) c.requires.marked in
    search (rules, share)

pub into_index-requires-clause-all : goal.into_index-requires-clause-all
into_index-requires-clause-all g c =
    subst (λ (hs : List HeadAt). IsReadAt c.args.text.now 0 hs c.in_ok-share.share) (c.list.ensures ∙ c.requires.heads)
    c.in_ok-share.ensures
