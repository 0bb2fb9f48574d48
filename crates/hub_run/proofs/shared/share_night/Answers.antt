use Rattle.hub_run.proofs.Workers.{found_asked, found_spans, night_found}
use Rattle.hub_run.proofs.shared.share_night.Goals as goal

pub write_found-requires-clause-spans : goal.write_found-requires-clause-spans
write_found-requires-clause-spans g c = found_spans c.args.text.now c.args.setup.now c.in_ok-found.found c.in_ok-found.ensures

pub write_found-requires-clause-found : goal.write_found-requires-clause-found
write_found-requires-clause-found g c = found_asked c.args.text.now c.args.setup.now c.in_ok-found.found c.in_ok-found.ensures

pub returns-clause-night : goal.returns-clause-night
returns-clause-night g c =
    night_found c.args.text.now c.args.setup.now c.args.at.now c.in_ok-found.found c.in_ok-night.night c.in_ok-found.ensures
    c.in_ok-night.ensures
