use Rattle.std.proofs.Common.{ap, ◌∙◌}
use Rattle.night_equal_text.specs.LookedUp.{seen_setup}
use Rattle.track_definition.specs.Rows.{table_of}
use Rattle.hub_tonight.proofs.given.track_of.Goals as goal

pub returns : goal.returns
returns c =
    let input = c.args.input.now in
    let setup = c.args.setup.now in
    (c.tracks_are_one.ensures input setup c.as_slice.result.now c.in_ok-track.track c.in_ok-track.ensures).table
    ∙ ap (table_of input (seen_setup setup)) (c.as_slice.ensures.value ∙ c.in_ok-documents.ensures)
