use Rattle.std.proofs.Common.{List, ap, length, reverse, sym, ◌∙◌}
use Rattle.hub_tonight.specs.Files.{next_rows}
use Rattle.hub_tonight.proofs.Running.{for_partners, tonight_is}
use Rattle.hub_tonight.proofs.run.given.Goals as goal
use Rattle.partner_setup.specs.declared.partner.Partner.{Partner}

pub out_files-requires : goal.out_files-requires
out_files-requires c =
    for_partners c.args.made.setup c.args.night c.args.call.now.input.now c.args.call.now.at.now c.requires.night

pub next_rows-requires : goal.next_rows-requires
next_rows-requires c =
    let fits = for_partners c.args.made.setup c.args.night c.args.call.now.input.now c.args.call.now.at.now c.requires.night in
    ap length c.as_slice.ensures ∙ fits.next ∙ ap length (sym c.partners.ensures.partners)

pub returns : goal.returns
returns c =
    let call = c.args.call.now in
    let made = c.args.made in
    let night = c.args.night in
    tonight_is c.setup_bytes_are_one.ensures call.files (reverse call.nights.now) call.first.now call.input.now call.at.now made night
    c.requires.made c.requires.few c.requires.night c.from_vec.result c.in_ok-total.total.line c.in_ok-track.track
    c.in_ok-total.total.status c.from_vec-2.result (c.from_vec.ensures ∙ c.in_ok-out.ensures) c.in_ok-total.ensures.line
    c.in_ok-track.ensures c.in_ok-total.ensures.status
    (c.from_vec-2.ensures
    ∙ c.in_ok-left.ensures
    ∙ ap (λ (ps : List Partner). next_rows ps c.as_slice.result.now) c.partners.ensures.partners
    ∙ ap (next_rows made.setup.partners) c.as_slice.ensures)
