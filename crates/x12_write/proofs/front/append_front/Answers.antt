use Rattle.std.proofs.Common.{ap, ◌∙◌, ◌≡◌, ◌++◌, List, ℕ, [], ◌∷◌, append_assoc}
use Rattle.std.specs.List.{flat_map}
use Rattle.std.specs.Prelude.{codes}
use Rattle.std.proofs.lemmas.List.Concat.{flat_map-append}
use Rattle.x12_write.specs.Number.{padded_text}
use Rattle.x12_write.specs.Outbound.{front_text, moment_elements, no_information}
use Rattle.x12_write.specs.Segment.{elements_text}
use Rattle.x12_write.proofs.front.append_front.Goals as goal

-- what four calls append, one after the other
appended : (s : ℕ) (out out1 out2 out3 out4 id : List ℕ) (ws xs ys zs : List (List ℕ))
    → out1 ≡ out ++ (id ++ flat_map (λ x. s ∷ x) ws) → out2 ≡ out1 ++ flat_map (λ x. s ∷ x) xs
    → out3 ≡ out2 ++ flat_map (λ x. s ∷ x) ys → out4 ≡ out3 ++ (flat_map (λ x. s ∷ x) zs ++ s ∷ [])
    → out4 ≡ out ++ (id ++ flat_map (λ x. s ∷ x) ((ws ++ xs ++ ys) ++ zs) ++ s ∷ [])
appended s out out1 out2 out3 out4 id ws xs ys zs a b c d = rw (d, c, b, a) (simp (flat_map-append, append_assoc))

pub returns-clause-text : goal.returns-clause-text
returns-clause-text c =
    let e = c.args.envelope.now in
    appended e.delims.element c.args.out.now.items c.extend_from_slice.new.self.items c.append_party.new.out.items
    c.append_party-2.new.out.items c.extend_from_slice-2.new.self.items (codes "ISA") no_information
    (e.hub_qualifier ∷ padded_text 15 e.hub_id ∷ []) (e.partner_qualifier ∷ padded_text 15 e.partner_id ∷ [])
    (moment_elements e c.args.at.now)
    (c.in_ok-extend_from_slice.ensures.items ∙ ap (λ (t : List ℕ). c.args.out.now.items ++ t) c.opening.ensures)
    c.in_ok-append_party.ensures.text c.in_ok-append_party-2.ensures.text
    (c.in_ok-extend_from_slice-2.ensures.items ∙ ap (λ (t : List ℕ). c.append_party-2.new.out.items ++ t)
    (c.moment_of-moment.ensures
    ∙ ap (λ (at : List ℕ). elements_text e.delims.element (moment_elements e at) ++ e.delims.element ∷ []) c.digits.ensures.value))

pub returns-clause-kept : goal.returns-clause-kept
returns-clause-kept c = record { rest = front_text c.args.envelope.now c.args.at.now; is = returns-clause-text c }
