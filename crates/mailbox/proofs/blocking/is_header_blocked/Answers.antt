use Rattle.std.proofs.Common.{ap, sym, ◌∙◌}
use Rattle.std.specs.List.{list_any}
use Rattle.std.proofs.lemmas.Bool.{OnTrue_at}
use Rattle.mailbox.specs.Deliveries.{collides}
use Rattle.mailbox.proofs.Parted.{none_kept}
use Rattle.mailbox.proofs.blocking.is_header_blocked.Goals as goal

pub returns-then-is_clear : goal.returns-then-is_clear
returns-then-is_clear c =
    let test = collides c.args.from.now c.args.to.now in
    sym (none_kept test c.args.header.now
    (ap (list_any test) (sym c.bytes.ensures) ∙ OnTrue_at c.if-is_clear.true c.is_clear.ensures))
