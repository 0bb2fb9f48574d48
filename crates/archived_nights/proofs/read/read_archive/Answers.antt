use Rattle.std.proofs.Common.{◌∙◌, ap, map}
use Rattle.night_entries.specs.Again.{key_of}
use Rattle.archived_nights.specs.Archive.{rows_of}
use Rattle.archived_nights.proofs.Entered.{entered}
use Rattle.archived_nights.proofs.read.read_archive.Goals as goal

pub returns-clause-entry : goal.returns-clause-entry
returns-clause-entry c =
    entered c.args.papers.now c.in_ok-sets.sets.items c.in_ok-list.list.items _ _ _ _ _ _ c.in_ok-copy_text.ensures
    c.in_ok-copy_text-2.ensures c.in_ok-check_sums.ensures.moment c.in_ok-check_sums.ensures.sums c.in_ok-sets.ensures.sets
    c.in_ok-list.ensures.list.0 c.in_ok-list.ensures.list.1
    (c.from_vec.ensures ∙ c.in_ok-delivered.ensures ∙ ap (map key_of) c.as_slice.ensures.value)
    (c.from_vec-2.ensures ∙ c.new.ensures.items)
    (c.from_vec-3.ensures ∙ c.in_ok-rows.ensures ∙ ap rows_of c.as_slice-2.ensures.value)
    (c.from_vec-4.ensures ∙ c.new-2.ensures.items)
