use Rattle.std.proofs.Common.{List, ℕ, ◌++◌, take, ap, ◌∙◌}
use Rattle.std.proofs.lemmas.Result.{on_ok_weaker}
use Rattle.mailbox.proofs.Together.{unchanged}
use Rattle.mailbox.proofs.inner.append_unchanged.Goals as goal

pub returns-clause-text : goal.returns-clause-text
returns-clause-text c = on_ok_weaker c.append_as_read.result (λ is. is
    ∙ ap (λ (t : List ℕ). c.args.out.now.items ++ t) (unchanged c.args.delims.now (take c.args.most c.args.left)))
    c.append_as_read.ensures.text
