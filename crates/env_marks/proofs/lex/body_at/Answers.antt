use Rattle.std.proofs.Common.{◌+◌, Some, ap, sym, ◌∙◌, arith}
use Rattle.x12_bytes.specs.Bytes.{is_line_end}
use Rattle.env_marks.specs.FragLaws.{stop_some, stop_none}
use Rattle.env_marks.proofs.lex.body_at.Goals as goal

pub returns-then-lead-bytes : goal.returns-then-lead-bytes
returns-then-lead-bytes c =
    sym (stop_none is_line_end c.args.at c.args.bytes.now (omega (arith, c.lead-lead.ensures.value, c.if-lead-bytes.true)))

pub returns : goal.returns
returns c =
    ap (λ n. Some (c.args.at + n)) c.lead-lead.ensures.value
    ∙ sym (stop_some is_line_end c.args.at c.args.bytes.now
    (omega (arith, c.lead-lead.ensures.value, c.lead-lead.ensures.bound, c.if-lead-bytes.false)))
