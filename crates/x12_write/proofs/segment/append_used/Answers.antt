use Rattle.std.proofs.Common.{◌≡◌, ◌++◌, take, sym, ap, ◌∙◌}
use Rattle.std.proofs.lemmas.List.{take-map}
use Rattle.std.proofs.lemmas.Result.{on_ok_weaker}
use Rattle.x12_write.specs.Segment.{read, elements_text, trimmed}
use Rattle.x12_write.proofs.segment.append_used.Goals as goal

pub returns-clause-text : goal.returns-clause-text
returns-clause-text c =
    let kept : read (take c.used.result c.args.parts.now) ≡ trimmed (read c.args.parts.now) =
    sym (take-map (λ element. element.now) c.used.result c.args.parts.now) ∙ c.used.ensures.value in
    on_ok_weaker c.append_elements.result (λ written. written
    ∙ ap (λ parts. c.args.out.now.items ++ elements_text c.args.separator parts) kept) c.append_elements.ensures.text
