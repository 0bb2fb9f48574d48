use Rattle.std.proofs.Common.{List, ℕ, find, map, ap, sym, ◌∙◌}
use Rattle.partner_setup.specs.Names.{those_at}
use Rattle.partner_setup.specs.Setup.{is_for_set}
use Rattle.set_findings.specs.Keys.{key_at}
use Rattle.set_findings.proofs.Starting.{found_from, none_found}
use Rattle.set_findings.proofs.lookup.first_by_table.Goals as goal

pub returns-in-None : goal.returns-in-None
returns-in-None c =
    let guides = c.args.guides.now in
    let places = c.args.places.now in
    sym (none_found guides c.args.group.now c.args.version.now c.args.set.now places
    (c.in-None.ensures (map (key_at guides) places) c.requires))

pub returns-in-Some : goal.returns-in-Some
returns-in-Some c =
    let guides = c.args.guides.now in
    let places = c.args.places.now in
    c.first_for_set.ensures
    ∙ ap (λ (ps : List ℕ). find (is_for_set c.args.group.now c.args.version.now c.args.set.now) (those_at guides ps)) c.places_from.ensures
    ∙ found_from guides c.args.group.now c.args.version.now c.args.set.now places c.in-Some.from
    (c.in-Some.ensures (map (key_at guides) places) c.requires)
