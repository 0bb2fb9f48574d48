use Rattle.std.proofs.Common.{sym}
use Rattle.night_search.proofs.row.append_delivered.Goals as goal

pub returns : goal.returns
returns c = rw (sym c.field-receiver.ensures, sym c.field-isa13.ensures) c.append_parts.ensures
