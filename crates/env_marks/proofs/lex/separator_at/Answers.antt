use Rattle.std.proofs.Common.{◌+◌, Some, ap, sym, ◌∙◌, arith}
use Rattle.env_marks.specs.Frags.{is_other_than}
use Rattle.env_marks.specs.FragLaws.{stop_some, stop_none}
use Rattle.env_marks.proofs.lex.separator_at.Goals as goal

pub returns-then-len-bytes : goal.returns-then-len-bytes
returns-then-len-bytes c =
    sym (stop_none (is_other_than c.args.element) c.args.at c.args.bytes.now
    (omega (arith, c.id_len-len.ensures.value, c.if-len-bytes.true)))

pub returns : goal.returns
returns c =
    ap (λ n. Some (c.args.at + n)) c.id_len-len.ensures.value
    ∙ sym (stop_some (is_other_than c.args.element) c.args.at c.args.bytes.now
    (omega (arith, c.id_len-len.ensures.value, c.id_len-len.ensures.bound, c.if-len-bytes.false)))
