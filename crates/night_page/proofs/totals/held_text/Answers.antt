use Rattle.std.proofs.Common.{sym}
use Rattle.csv.specs.Records.{fields_of}
use Rattle.night_page.specs.Page.{is_held}
use Rattle.night_page.proofs.Growing.{counted}
use Rattle.night_page.proofs.totals.held_text.Goals as goal

pub returns : goal.returns
returns c = rw (sym (counted is_held fields_of c.args.all.now), sym c.held.ensures) c.number_text.ensures
