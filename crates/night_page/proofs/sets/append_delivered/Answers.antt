use Rattle.std.proofs.Common.{sym}
use Rattle.csv.specs.Records.{fields_of}
use Rattle.night_page.specs.Rows.{is_delivered}
use Rattle.night_page.proofs.Growing.{counted}
use Rattle.night_page.proofs.sets.append_delivered.Goals as goal

pub returns : goal.returns
returns c = rw (sym (counted is_delivered fields_of c.args.rows.now), sym c.delivered.ensures) c.append_count.ensures
