use Rattle.std.proofs.Common.{◌∙◌, ap, inl, inr}
use Rattle.std.proofs.lemmas.Result.{IfOk-weaker}
use Rattle.guide_changes.specs.Changes.{Compared, Unread, unread_line}
use Rattle.guide_changes.proofs.changed.change_of.Goals as goal

pub returns-in-Taken-Taken : goal.returns-in-Taken-Taken
returns-in-Taken-Taken c =
    IfOk-weaker c.changed_lines.result _ _ (λ text compared. Compared c.in-Taken-Taken.old c.in-Taken-Taken.new
    (rw c.in-Taken-Taken.is-0 at c.in_ok-judged.ensures) (rw c.in-Taken-Taken.is-1 at c.in_ok-new.ensures) compared)
    c.changed_lines.ensures

pub returns-in_default-Refused : goal.returns-in_default-Refused
returns-in_default-Refused c =
    IfOk-weaker c.unread_line.result _ _ (λ text is. Unread c.in_default-Refused.words
    (inr (rw c.in_default-Refused.is-1 at c.in_ok-new.ensures)) (is ∙ ap (unread_line c.args.name.now) c.as_slice.ensures))
    c.unread_line.ensures

pub returns-in-Refused-default : goal.returns-in-Refused-default
returns-in-Refused-default c =
    IfOk-weaker c.unread_line-in-Refused-default.result _ _ (λ text is. Unread c.in-Refused-default.words
    (inl (rw c.in-Refused-default.is-0 at c.in_ok-judged.ensures))
    (is ∙ ap (unread_line c.args.name.now) c.as_slice-in-Refused-default.ensures))
    c.unread_line-in-Refused-default.ensures
