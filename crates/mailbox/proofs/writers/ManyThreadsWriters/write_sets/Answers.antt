use Rattle.std.proofs.Common.{ap, map, ◌∙◌}
use Rattle.std.proofs.lemmas.Result.{IfOk-weaker}
use Rattle.std.specs.List.{flat_map}
use Rattle.mailbox.specs.Parts.{rendered_part}
use Rattle.mailbox.proofs.Sharing.{parts_make_all, same}
use Rattle.mailbox.proofs.writers.ManyThreadsWriters.write_sets.Goals as goal

pub write_by-requires-sync-R : goal.write_by-requires-sync-R
write_by-requires-sync-R g c κs within = c.requires.ready

pub returns : goal.returns
returns g c =
    let part = rendered_part c.args.partner.now c.args.k c.args.sets.now in
    IfOk-weaker c.write_by.result _ _ (λ v is. ap (flat_map same) (is ∙ ap (map part) c.as_slice.ensures.value)
    ∙ parts_make_all c.args.partner.now c.args.k c.args.sets.now c.in_ok-parts.parts.items c.in_ok-parts.ensures) c.write_by.ensures
