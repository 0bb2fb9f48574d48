use Rattle.night_page.proofs.Naming.{named}
use Rattle.night_page.proofs.name.names_in_order.Goals as goal

pub returns : goal.returns
returns c = named c.args.found.items c.in_order.result.items c.in_order.ensures.same c.in_order.ensures.rising
