use Rattle.std.proofs.Common.{◌∙◌, List, Option, ap, map, subst}
use Rattle.clap.specs.Words.{Text, first_value, found_of}
use Rattle.system_io.specs.Words.{values_found}
use Rattle.night_command.specs.CommandLine.{piece_given, workers_given}
use Rattle.hub_command.specs.Asked.{IsRequested, text_of}
use Rattle.hub_command.specs.CommandLine.{Request, Rest, rest_of, run_given}
use Rattle.hub_command.proofs.command.run_found.Goals as goal

pub returns : goal.returns
returns c =
    let hub = c.args.hub.now in
    let rest : Rest = rest_of (first_value (found_of c.args.matches.now)) (values_found (found_of c.args.matches.now)) in
    let w = workers_given rest.workers in
    let p = piece_given rest.piece in
    let given = c.given_of.result in
    subst (λ (r : Option Request). IsRequested r c.run_given.result)
    (ap (λ (f : List Text). run_given hub f (map (λ f. f.now) given.paths.again.items) (text_of given.at) (text_of given.name) w p)
    c.given_of.ensures.files
    ∙ ap (λ (g : List Text). run_given hub rest.files g (text_of given.at) (text_of given.name) w p) c.given_of.ensures.again
    ∙ ap (λ (a : Option Text). run_given hub rest.files rest.again a (text_of given.name) w p) c.given_of.ensures.at
    ∙ ap (λ (n : Option Text). run_given hub rest.files rest.again rest.at n w p) c.given_of.ensures.name)
    (c.run_given.ensures w p c.given_of.ensures.sharing)
