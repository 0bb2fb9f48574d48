use Rattle.std.proofs.Common.{sym}
use Rattle.csv.specs.Records.{fields_of}
use Rattle.night_page.specs.Totals.{is_counted}
use Rattle.night_page.proofs.Growing.{counted}
use Rattle.night_page.proofs.totals.counted_text.Goals as goal

pub returns : goal.returns
returns c = rw (sym (counted is_counted (λ row. fields_of row.now) c.args.firsts.now), sym c.counted.ensures) c.number_text.ensures
