use Rattle.std.proofs.Common.{◌∙◌, ℕ, List, ap}
use Rattle.std.specs.List.{prefix_len}
use Rattle.std.specs.Str.{bytes_eq}
use Rattle.csv.specs.Records.{fields_of}
use Rattle.sets_again.specs.Rows.{is_at, offset}
use Rattle.sets_again.proofs.Walking.{prefix_mapped}
use Rattle.sets_again.proofs.rows.count_at.Goals as goal

pub returns-clause-count : goal.returns-clause-count
returns-clause-count c =
    c.count_with.ensures.count
    ∙ ap (λ (t : List ℕ). prefix_len (λ row. bytes_eq (offset (fields_of row)) t) c.args.all.now)
    (c.as_bytes.ensures.value ∙ c.format.ensures.text)
    ∙ prefix_mapped (is_at c.args.start) fields_of c.args.all.now
