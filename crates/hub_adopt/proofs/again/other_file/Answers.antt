use Rattle.std.proofs.Common.{◌∙◌}
use Rattle.hub_adopt.proofs.Comparing.{gives_same}
use Rattle.hub_adopt.proofs.again.other_file.Goals as goal

pub returns-in-None : goal.returns-in-None
returns-in-None g c none =
    gives_same c.args.adoption.now c.args.mark.now c.as_slice.result.now c.args.given.now c.in_ok-old.old.items
    (c.as_slice.ensures ∙ c.in_ok-folder.ensures) c.in_ok-old.ensures (c.first_other.ensures c.in-None.is ∙ c.as_slice-2.ensures.value)
