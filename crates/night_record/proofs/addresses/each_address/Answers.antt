use Rattle.std.proofs.Common.{arith}
use Rattle.night_record.proofs.Tabled.{address_at}
use Rattle.night_record.proofs.addresses.each_address.Goals as goal

pub returns-in-None : goal.returns-in-None
returns-in-None c list can same =
    let at = address_at c.args.rows.now list c.loop-i.i c.index-rows-i.result c.index-rows-i.result (omega (arith))
    c.index-rows-i.is same can in
    let none = rw c.in-None.is at c.in_ok-next.ensures in
    none at.next at.can_be at.row_is
