use Rattle.std.proofs.Common.{◌∙◌, ◌&&◌, Bool, ap, map, sym}
use Rattle.std.specs.List.{list_all}
use Rattle.csv.specs.Records.{fields_of}
use Rattle.night_page.specs.Totals.{are_of_one_set}
use Rattle.night_page.proofs.FirstRows.{all_mapped}
use Rattle.night_page.proofs.firsts.is_further.Goals as goal

pub returns-then-has_room : goal.returns-then-has_room
returns-then-has_room c =
    let row = fields_of c.args.row.now in
    c.are_with.ensures ∙ all_mapped (λ other. are_of_one_set other row) fields_of c.args.set.now
    ∙ ap (λ (b : Bool). b && list_all (λ other. are_of_one_set other row) (map fields_of c.args.set.now))
    (sym (sym c.has_room.ensures ∙ c.if-has_room.true))
