use Rattle.std.proofs.Common.{◌∙◌, ap, filter, rules}
use Rattle.std.proofs.lemmas.List.Elements.{filter_from_retain}
use Rattle.system_io.specs.Words.{is_sign}
use Rattle.system_io.proofs.mistake.in_one_line.Goals as goal

pub returns : goal.returns
returns c =
    c.from_vec.ensures ∙ filter_from_retain _ is_sign (λ p x b q k. search rules) _ _ _ c.retain.ensures.filtered
    ∙ ap (filter is_sign) c.in_ok-line.ensures.items
