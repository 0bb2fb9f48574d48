use Rattle.std.proofs.Common.{◌≡◌, sym, ◌∙◌}
use Rattle.std.specs.Prelude.{false}
use Rattle.std.specs.List.{list_any}
use Rattle.std.proofs.lemmas.Bool.{OnTrue_from}
use Rattle.mailbox.specs.Blocking.{is_foreign}
use Rattle.mailbox.proofs.Passing.{absent_passed, own_passed}
use Rattle.mailbox.proofs.blocking.cannot_collide.Goals as goal

pub returns-then-is_delimiter : goal.returns-then-is_delimiter
returns-then-is_delimiter c =
    OnTrue_from c.is_delimiter.result (list_any (is_foreign c.args.from.now c.args.byte) c.args.text.now ≡ false)
    (λ h. own_passed c.args.from.now c.args.byte c.args.text.now (sym c.is_delimiter.ensures ∙ h))

pub returns-else-is_delimiter : goal.returns-else-is_delimiter
returns-else-is_delimiter c =
    absent_passed c.args.from.now c.args.byte c.args.text.now c.memchr.result c.is_none.result c.is_none.ensures c.memchr.ensures
