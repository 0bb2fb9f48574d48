use Rattle.std.proofs.Common.{rules}
use Rattle.x12_segs.proofs.PartLemmas.{parts_by-first}
use Rattle.x12_segs.proofs.parts.first_end.Goals as goal

pub returns : goal.returns
returns c =
    parts_by-first c.args.separator c.in_ok-separator.field-0 c.args.text.now c.find_byte.result (search rules) c.find_byte.ensures
