use Rattle.std.proofs.Common.{sym}
use Rattle.csv.specs.Records.{fields_of}
use Rattle.night_page.specs.Rows.{is_refused}
use Rattle.night_page.proofs.Growing.{counted}
use Rattle.night_page.proofs.totals.refused_text.Goals as goal

pub returns : goal.returns
returns c = rw (sym (counted is_refused fields_of c.args.all.now), sym c.refused.ensures) c.number_text.ensures
