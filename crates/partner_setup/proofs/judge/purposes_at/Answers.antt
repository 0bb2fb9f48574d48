use Rattle.std.proofs.Common.{◌≡◌, ◌+◌, ◌++◌, [], ℕ, List, Option, map, drop, get_or, sym, ap, ◌∙◌}
use Rattle.std.specs.Prelude.{option_map, slice_get}
use Rattle.std.proofs.lemmas.List.{drop_more}
use Rattle.guide_tree.specs.declared.rows.GuideRows.{GuideRows}
use Rattle.partner_setup.specs.Names.{and_some, those_at}
use Rattle.partner_setup.specs.SetupFaults.{purpose_key, key_of_texts}
use Rattle.partner_setup.specs.declared.told.Told.{Told}
use Rattle.partner_setup.proofs.Naming.{keys_between}
use denote.Ref.{Bor}
use Rattle.partner_setup.proofs.judge.purposes_at.Goals as goal

abbrev keys : List Told → List (List ℕ)
keys ts = map (λ (t : Told). key_of_texts t.first.now t.second.now t.third.now) ts

pub loop-place-preserved : goal.loop-place-preserved
loop-place-preserved c =
    let guides = c.args.guides.now in
    let places = c.args.places.now in
    let i : ℕ = c.loop-place.place-index in
    let told = keys c.loop-place.told.items in
    let place = get_or places i 0 in
    let guide : option_map (λ (b : Bor GuideRows). b.now) c.guide_at.result ≡ slice_get guides place = c.guide_at.ensures in
    keys_between purpose_key told (keys c.push_purpose.new.told.items) (those_at guides (drop (i + 1) places)) (slice_get guides place)
    (c.in_ok-push_purpose.ensures ∙ ap (λ (o : Option GuideRows). told ++ map purpose_key (and_some o [])) guide)
    ∙ ap (λ (l : List ℕ). told ++ map purpose_key (those_at guides l)) (sym (drop_more places i 0 c.loop-place-test.true))
    ∙ c.loop-place.invariant
