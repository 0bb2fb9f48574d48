use Rattle.std.proofs.Common.{sym}
use Rattle.std.proofs.lemmas.Bool.{ltb-true}
use Rattle.elem_rules.proofs.Steps.{text_read}
use Rattle.elem_rules.proofs.conditions.text_at.Goals as goal

pub returns-in-Some-get : goal.returns-in-Some-get
returns-in-Some-get c =
    text_read c.args.texts.now c.args.position c.in-Some.index c.in-Some-get.text.now c.in-Some.ensures.0 c.in-Some.ensures.1
    (ltb-true _ _ (sym c.in-Some-get.ensures.lookup.0)) c.in-Some-get.ensures.lookup.1
