use Rattle.std.proofs.Common.{◌+◌, ℕ, List, drop, sym, ap, ◌∙◌}
use Rattle.std.proofs.lemmas.List.{take_rest}
use Rattle.env_marks.specs.Frags.{stop_at, is_other_than}
use Rattle.env_marks.specs.FragLaws.{id_stop_behind}
use Rattle.env_marks.proofs.lex.id_end_at.Goals as goal

pub returns : goal.returns
returns c =
    let bytes : List ℕ = c.args.bytes.now in
    c.separator_at.ensures
    ∙ ap (stop_at (is_other_than c.args.element) (c.args.at + c.lead-lead.result)) (take_rest bytes c.lead-lead.result)
    ∙ ap (λ n. stop_at (is_other_than c.args.element) (c.args.at + n) (drop n bytes)) c.lead-lead.ensures.value
    ∙ sym (id_stop_behind c.args.element c.args.at bytes)
