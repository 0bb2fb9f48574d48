use Rattle.hub_tonight.proofs.Giving.{all_files}
use Rattle.hub_tonight.proofs.out_files.out_files.Goals as goal

pub returns : goal.returns
returns c =
    all_files c.counters_texts_are_one.ensures c.args.setup.now c.args.night.now c.new-files.result.items c.append_partners.new.files.items
    c.append_last.new.files.items c.partners.result.now c.as_slice-2.result.now c.as_slice-3.result.now c.as_slice.result.now _
    c.new-files.ensures.items c.in_ok-append_partners.ensures c.in_ok-append_last.ensures c.partners.ensures.partners c.as_slice-2.ensures
    c.as_slice-3.ensures c.in_ok-counters.ensures c.as_slice.ensures
