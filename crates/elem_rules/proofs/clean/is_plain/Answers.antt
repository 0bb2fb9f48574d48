use Rattle.elem_rules.proofs.Looks.{plain_by_one, plain_by_two}
use Rattle.elem_rules.proofs.clean.is_plain.Goals as goal

pub returns-in-None : goal.returns-in-None
returns-in-None c = plain_by_one c.args.delims c.args.text.now c.memchr.result c.is_none.result c.in-None.is c.is_none.ensures
    c.memchr.ensures

pub returns-in-Some : goal.returns-in-Some
returns-in-Some c = plain_by_two c.args.delims c.args.text.now c.in-Some.separator c.memchr2.result c.is_none-in-Some.result c.in-Some.is
    c.is_none-in-Some.ensures c.memchr2.ensures
