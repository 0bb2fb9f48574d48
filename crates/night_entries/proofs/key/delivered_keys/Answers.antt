use Rattle.std.proofs.Common.{◌∙◌, map}
use Rattle.std.proofs.lemmas.Result.{IfErr-weaker, IfOk-weaker}
use Rattle.csv.specs.Records.{fields_of}
use Rattle.night_entries.specs.Keys.{receiver_named}
use Rattle.night_entries.specs.Named.{found_in}
use Rattle.night_entries.proofs.BadRows.{all_good, rows_same}
use Rattle.night_entries.proofs.Same.{keys_same}
use Rattle.night_entries.proofs.key.delivered_keys.Goals as goal

pub returns-clause-keys : goal.returns-clause-keys
returns-clause-keys c =
    IfOk-weaker c.keys_by.result _ _
    (λ found is. is ∙ keys_same c.args.input.now (found_in c.in_ok-receivers.receivers) (receiver_named c.args.receivers.now)
    (map fields_of c.args.table.now) c.in_ok-receivers.ensures) c.keys_by.ensures.keys

pub returns-clause-good : goal.returns-clause-good
returns-clause-good c =
    IfOk-weaker c.keys_by.result _ _
    (λ found good. all_good c.args.input.now (found_in c.in_ok-receivers.receivers) (receiver_named c.args.receivers.now)
    (map fields_of c.args.table.now) c.in_ok-receivers.ensures good) c.keys_by.ensures.good

pub returns-clause-refused : goal.returns-clause-refused
returns-clause-refused c =
    IfErr-weaker c.keys_by.result _ _
    (λ e bad. rows_same c.args.input.now (found_in c.in_ok-receivers.receivers) (receiver_named c.args.receivers.now)
    (map fields_of c.args.table.now) c.in_ok-receivers.ensures e bad) c.keys_by.ensures.refused
