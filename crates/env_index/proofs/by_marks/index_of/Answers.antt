use Rattle.std.proofs.Common.{◌≡◌, List, subst, ◌∙◌}
use Rattle.isa_scan.specs.declared.heads.HeadAt.{HeadAt}
use Rattle.env_index.specs.Shares.{IsReadAt}
use Rattle.env_index.proofs.HeadShares.{whole_share}
use Rattle.env_index.proofs.by_marks.index_of.Goals as goal

pub read_share-requires : goal.read_share-requires
read_share-requires c =
    whole_share c.args.text.now c.list.result.now c.args.marks.now c.requires.few (c.list.ensures ∙ c.requires.heads) c.requires.marked

pub into_index-requires-clause-all : goal.into_index-requires-clause-all
into_index-requires-clause-all c =
    subst (λ (hs : List HeadAt). IsReadAt c.args.text.now 0 hs c.in_ok-share.share) (c.list.ensures ∙ c.requires.heads)
    c.in_ok-share.ensures
