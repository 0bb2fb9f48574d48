use Rattle.std.proofs.Common.{◌∙◌, ◌++◌, ◌∷◌, [], List, ℕ, ap, arith, map, sym, take}
use Rattle.std.specs.List.{filter_map}
use Rattle.std.proofs.lemmas.List.Elements.{filter_map-append}
use Rattle.csv.specs.Records.{fields_of}
use Rattle.night_search.proofs.ForAbove.{taken}
use Rattle.night_page.specs.Causes.{cause_of}
use Rattle.night_page.specs.Rows.{Row}
use Rattle.night_page.proofs.causes.causes_found.Goals as goal

pub loop-i-preserved : goal.loop-i-preserved
loop-i-preserved c =
    let rows = c.args.rows.now in
    let row = c.index-rows-i.result in
    let i = c.loop-i.i in
    c.in_ok-push_cause.ensures
    ∙ ap (λ (l : List (List ℕ)). l ++ filter_map cause_of (fields_of row ∷ [])) c.loop-i.invariant
    ∙ sym (filter_map-append cause_of (map fields_of (take i rows)) (fields_of row ∷ []))
    ∙ ap (λ (l : List Row). filter_map cause_of l) (sym (taken fields_of rows i row (omega (arith)) c.index-rows-i.is))
