use Rattle.std.proofs.Common.{sym, subst}
use Rattle.x12_bytes.specs.declared.delims.Delims.{Delims}
use Rattle.mailbox.specs.Blocking.{AllShared}
use Rattle.mailbox.proofs.Clear.{nothing_blocked}
use Rattle.mailbox.proofs.blocking.is_blocked.Goals as goal

pub returns-then-are_shared : goal.returns-then-are_shared
returns-then-are_shared c =
    sym (nothing_blocked c.args.to.now c.args.placed.now
    (subst (λ (d : Delims). AllShared d c.args.to.now) c.delims-from.ensures (c.are_shared.ensures c.if-are_shared.true)))
