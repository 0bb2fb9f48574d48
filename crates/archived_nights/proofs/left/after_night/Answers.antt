use Rattle.std.proofs.Common.{◌∙◌, ap, map}
use Rattle.night_record.specs.Tables.{address_of}
use Rattle.archived_nights.specs.Archive.{address_in, left_by, next_in}
use Rattle.archived_nights.proofs.Leaving.{left_more}
use Rattle.archived_nights.proofs.left.after_night.Goals as goal

pub returns-in-Ok : goal.returns-in-Ok
returns-in-Ok c =
    left_more c.args.night.now c.args.older.now c.as_slice-2.result.now c.in-Ok.list.items
    (ap (map address_of) c.as_slice-2.ensures.value ∙ c.in_ok-tonight.ensures.addresses ∙ ap (map address_in) c.as_slice.ensures)
    (ap (map next_in) c.as_slice-2.ensures.value ∙ c.in_ok-tonight.ensures.left ∙ ap (map left_by) c.as_slice.ensures)
    c.in-Ok.ensures.list.each
