use Rattle.std.proofs.Common.{sym}
use Rattle.csv.specs.Records.{fields_of}
use Rattle.night_page.specs.Totals.{is_accepted}
use Rattle.night_page.proofs.Growing.{counted}
use Rattle.night_page.proofs.totals.accepted_text.Goals as goal

pub returns : goal.returns
returns c = rw (sym (counted is_accepted (λ row. fields_of row.now) c.args.firsts.now), sym c.accepted.ensures) c.number_text.ensures
