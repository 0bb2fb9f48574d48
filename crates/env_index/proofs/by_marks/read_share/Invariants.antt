use Rattle.std.proofs.Common.{drop, take}
use Rattle.env_index.specs.Shares.{AreHeadsFrom, IsReadAt}
use Rattle.env_index.proofs.by_marks.read_share.Given as goal

abbrev pub invariant-loop-index : goal.invariant-loop-index
invariant-loop-index l =
    IsReadAt l.text l.from (take l.index l.heads) (record { entries = l.interchanges.items; outside = l.outside; end = l.at })
    × AreHeadsFrom l.text l.at (drop l.index l.heads)
