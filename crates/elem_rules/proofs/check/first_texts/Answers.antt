use Rattle.std.proofs.Common.{◌∙◌, Ok}
use Rattle.std.proofs.lemmas.Iterator.{YieldsList-from_take}
use Rattle.std.proofs.lemmas.Iterator.Consumers.{map_from_collect, YieldsList-from_first}
use Rattle.elem_rules.proofs.check.first_texts.Goals as goal

pub returns : goal.returns
returns c =
    map_from_collect {E = Unit {0}} {v = λ x. x.now} (Ok c.in_ok-texts.texts) c.in_ok-texts.ensures.ran
    (YieldsList-from_take {s = c.take.result} c.args.n
    (YieldsList-from_first (λ x. x.now) (λ rest. rest) _ (c.take.ensures.source ∙ c.elements.ensures.value)) c.take.ensures.count)
