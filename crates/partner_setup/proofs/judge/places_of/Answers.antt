use Rattle.std.proofs.Common.{◌≡◌, ◌+◌, ◌++◌, [], ℕ, List, Option, drop, get_or, sym, ap, ◌∙◌}
use Rattle.std.proofs.lemmas.List.{drop_more}
use Rattle.partner_setup.specs.Names.{and_some, place_of, places_of_texts}
use Rattle.partner_setup.proofs.Naming.{some_between}
use Rattle.partner_setup.proofs.judge.places_of.Goals as goal

pub loop-name-preserved : goal.loop-name-preserved
loop-name-preserved c known knows =
    let names = c.args.names.now in
    let i : ℕ = c.loop-name.name-index in
    let found : List ℕ = c.loop-name.found.items in
    let name = get_or names i c.name-item.result in
    let place : c.place_of.result ≡ place_of known name = c.place_of.ensures known knows
    ∙ ap (place_of known) (c.as_slice.ensures ∙ c.name-item.is) in
    some_between found c.push_some.new.places.items (places_of_texts known (drop (i + 1) names)) (place_of known name)
    (c.in_ok-push_some.ensures ∙ ap (λ (o : Option ℕ). found ++ and_some o []) place)
    ∙ ap (λ (l : List (List ℕ)). found ++ places_of_texts known l) (sym (drop_more names i c.name-item.result c.loop-name-test.true))
    ∙ c.loop-name.invariant known knows
