use Rattle.std.proofs.Common.{◌≡◌, ap, subst, ◌∙◌}
use Rattle.std.specs.Prelude.{Contains, get_or}
use Rattle.std.proofs.lemmas.List.Elements.{Contains-get_or}
use Rattle.env_index.specs.Words.{places_of}
use Rattle.number_register.specs.Recording.{Recording}
use Rattle.number_register.proofs.Places.{placed}
use Rattle.number_register.proofs.records.Records.is_full.Goals as goal

pub holds-requires : goal.holds-requires
holds-requires c =
    let listed : c.as_slice-place-items.result.now ≡ places_of c.args.self.now.index
    = c.as_slice-place-items.ensures ∙ c.self.invariant.places ∙ ap (λ (r : Recording). places_of r.index) c.self.view_is in
    let place = get_or c.as_slice-place-items.result.now c.loop-place.place-index (record { isa = 0; gs = 0; st = 0 }) in
    placed c.args.self.now.index place
    (subst (λ ps. Contains ps place) listed
    (Contains-get_or c.as_slice-place-items.result.now c.loop-place.place-index _ c.loop-place-test.true))
