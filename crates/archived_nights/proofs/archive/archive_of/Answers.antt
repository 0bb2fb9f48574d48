use Rattle.std.proofs.Common.{◌∙◌}
use Rattle.archived_nights.proofs.Made.{made}
use Rattle.archived_nights.proofs.archive.archive_of.Goals as goal

pub returns : goal.returns
returns c =
    made c.args.nights.now _ c.in_ok-sets.sets.items c.in_ok-next.next.items (c.in_ok-name.ensures ∙ c.last_name.ensures)
    (c.in_ok-moment.ensures ∙ c.last_moment.ensures) c.from_vec.ensures c.from_vec-2.ensures c.in_ok-sets.ensures c.in_ok-next.ensures
