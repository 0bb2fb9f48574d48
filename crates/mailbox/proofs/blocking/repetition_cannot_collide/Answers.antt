use Rattle.std.proofs.Common.{◌≡◌, ap, ◌∙◌}
use Rattle.std.specs.Prelude.{ℕ, Option, false}
use Rattle.std.specs.List.{list_any}
use Rattle.std.proofs.lemmas.Bool.{OnTrue_at, OnTrue_from}
use Rattle.mailbox.specs.Blocking.{is_foreign_if}
use Rattle.mailbox.proofs.Passing.{none_if, passed_if}
use Rattle.mailbox.proofs.blocking.repetition_cannot_collide.Goals as goal

pub returns-in-None : goal.returns-in-None
returns-in-None c = ap (λ (o : Option ℕ). list_any (is_foreign_if c.args.from.now o) c.args.text.now) c.in-None.is
    ∙ none_if c.args.from.now c.args.text.now

pub returns-in-Some : goal.returns-in-Some
returns-in-Some c =
    OnTrue_from c.cannot_collide.result (list_any (is_foreign_if c.args.from.now c.args.repetition) c.args.text.now ≡ false)
    (λ h. ap (λ (o : Option ℕ). list_any (is_foreign_if c.args.from.now o) c.args.text.now) c.in-Some.is
    ∙ passed_if c.args.from.now c.in-Some.separator c.args.text.now (OnTrue_at h c.cannot_collide.ensures))
