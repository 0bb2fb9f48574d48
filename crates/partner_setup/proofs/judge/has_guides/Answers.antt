use Rattle.std.proofs.Common.{◌≡◌, Bool, true, not, ◌&&◌, List, ℕ, map, sym, ap, ◌∙◌}
use Rattle.std.specs.List.{list_all}
use Rattle.hub_kinds.specs.Words.{has_twice, contains_text}
use Rattle.partner_setup.specs.Names.{places_of_texts, those_at}
use Rattle.partner_setup.specs.SetupFaults.{guide_name, guides_of, purpose_key, key_of_texts}
use Rattle.partner_setup.specs.declared.told.Told.{Told}
use Rattle.partner_setup.proofs.Telling.{twice_alike}
use Rattle.partner_setup.proofs.judge.has_guides.Goals as goal

pub returns : goal.returns
returns c =
    let guides = c.args.guides.now in
    let names = map guide_name guides in
    let p = c.args.partner.now in
    let there : list_all (contains_text names) p.guides ≡ true
    = sym (c.are_names.ensures names c.requires ∙ ap (λ (l : List (List ℕ)). list_all (contains_text names) l) c.as_slice-names.ensures)
    ∙ c.if-not-are_names.false in
    let places = c.as_slice.ensures.value ∙ c.in_ok-found.ensures names c.requires
    ∙ ap (λ (l : List (List ℕ)). places_of_texts names l) c.as_slice-names.ensures in
    let twice : c.has_twice.result ≡ has_twice purpose_key (guides_of guides p) = c.has_twice.ensures
    ∙ twice_alike (λ (t : Told). key_of_texts t.first.now t.second.now t.third.now) purpose_key _ _ c.in_ok-purposes_at.ensures
    ∙ ap (λ (l : List ℕ). has_twice purpose_key (those_at guides l)) places in
    ap (λ (b : Bool). not b) twice ∙ ap (λ (b : Bool). b && not (has_twice purpose_key (guides_of guides p))) (sym there)
