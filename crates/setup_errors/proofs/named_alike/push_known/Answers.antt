use Rattle.std.proofs.Common.{◌≡◌, ◌<◌, ℕ, List, length, take, ap, subst, sym, ◌∙◌, arith, get_or}
use Rattle.std.proofs.lemmas.List.{length-map, length-take-le}
use Rattle.partner_setup.specs.declared.rows.PartnerRow.{PartnerRow}
use Rattle.setup_errors.specs.NamedAlike.{small_name}
use Rattle.setup_errors.proofs.FirstPlaces.{first_earlier, known_more, named_at, told_more}
use Rattle.setup_errors.proofs.named_alike.push_known.Goals as goal

pub loop-i-preserved : goal.loop-i-preserved
loop-i-preserved c =
    let names : List (List ℕ) = c.args.names.now in
    let partners : List PartnerRow = c.args.partners.now in
    let i : ℕ = c.loop-i.i in
    let known = c.loop-i.invariant.known in
    let lengths : length names ≡ length partners = ap (λ (l : List (List ℕ)). length l) c.requires ∙ length-map partners small_name in
    let within : i < length partners = c.loop-i-test.true in
    let inside : i < length names = omega (arith, lengths, within) in
    let count : length (take i names) ≡ i = length-take-le i names (omega (arith, inside)) in
    let is : c.as_slice.result.now ≡ get_or names i c.as_slice.result.now =
    subst (λ (n : List ℕ). n ≡ get_or names i n) (sym c.as_slice.ensures) c.index-names-i.is in
    let named = named_at partners names i c.as_slice.result.now c.index-partners-i.result c.requires within is c.index-partners-i.is in
    record {
      known = known_more c.first_place.new.places names i c.as_slice.result.now inside is
          (c.in_ok-earlier.ensures.known (take i names) known (sym count));
      told = told_more c.args.found.now.items c.loop-i.found.items c.push_alike.new.found.items partners i c.index-partners-i.result
          c.in_ok-earlier.earlier within c.index-partners-i.is
          (first_earlier partners names i c.as_slice.result.now c.index-partners-i.result c.in_ok-earlier.earlier c.requires named
          (c.in_ok-earlier.ensures.first (take i names) known))
          c.in_ok-push_alike.ensures c.loop-i.invariant.told;
    }
