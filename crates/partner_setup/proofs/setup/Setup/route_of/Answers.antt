use Rattle.std.proofs.Common.{List, ℕ, Option, length, sym, ap, subst, ◌∙◌}
use Rattle.partner_setup.specs.Sound.{AreApart, AreWithin}
use Rattle.partner_setup.specs.declared.partner.Route.{Route}
use Rattle.partner_setup.proofs.Sounding.{targets_apart, targets_within}
use Rattle.partner_setup.proofs.Tabling.{targets_at, targets_found}
use Rattle.partner_setup.proofs.setup.Setup.route_of.Goals as goal

pub returns-clause-targets : goal.returns-clause-targets
returns-clause-targets c =
    let routes = c.args.self.now.routes in
    let code : List ℕ = c.args.code.now in
    c.targets_at.ensures
    ∙ ap (λ (rs : List Route). targets_at rs c.place_with_code.result) c.routes.ensures.routes
    ∙ ap (λ (place : Option ℕ). targets_at routes place) c.place_with_code.ensures
    ∙ targets_found routes code

pub returns-clause-within : goal.returns-clause-within
returns-clause-within c =
    let count : ℕ = length c.args.self.now.partners in
    let code : List ℕ = c.args.code.now in
    let routes = c.args.self.now.routes in
    subst (λ (places : List ℕ). AreWithin count places)
    (sym (c.targets_at.ensures
    ∙ ap (λ (rs : List Route). targets_at rs c.place_with_code.result) c.routes.ensures.routes
    ∙ ap (λ (place : Option ℕ). targets_at routes place) c.place_with_code.ensures
    ∙ targets_found routes code))
    (targets_within count routes code c.routes.ensures.within)

pub returns-clause-apart : goal.returns-clause-apart
returns-clause-apart c =
    let code : List ℕ = c.args.code.now in
    let routes = c.args.self.now.routes in
    subst (λ (places : List ℕ). AreApart places)
    (sym (c.targets_at.ensures
    ∙ ap (λ (rs : List Route). targets_at rs c.place_with_code.result) c.routes.ensures.routes
    ∙ ap (λ (place : Option ℕ). targets_at routes place) c.place_with_code.ensures
    ∙ targets_found routes code))
    (targets_apart routes code c.routes.ensures.apart)
