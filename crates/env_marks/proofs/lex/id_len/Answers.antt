use Rattle.std.proofs.Common.{◌∙◌, arith}
use Rattle.std.proofs.lemmas.List.Sums.{prefix_len-le-length}
use Rattle.env_marks.specs.Frags.{is_other_than}
use Rattle.env_marks.proofs.IdLens.{id_len_of}
use Rattle.env_marks.proofs.lex.id_len.Goals as goal

pub returns-clause-value : goal.returns-clause-value
returns-clause-value c =
    c.unwrap_or.ensures ∙ id_len_of c.args.element c.args.bytes.now c.find_short.result c.find_short.ensures

pub returns-clause-bound : goal.returns-clause-bound
returns-clause-bound c =
    let value = c.unwrap_or.ensures ∙ id_len_of c.args.element c.args.bytes.now c.find_short.result c.find_short.ensures in
    omega (arith, value, prefix_len-le-length (is_other_than c.args.element) c.args.bytes.now)
