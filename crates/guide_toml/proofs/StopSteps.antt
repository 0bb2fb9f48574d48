-- Components looked at one after another: the first that stops.
use Rattle.std.proofs.Common.{◌≡◌, ℕ, ◌+◌, List, [], ◌∷◌, Option, None, Ok, Err, sym, ap, ◌∙◌}
use Rattle.guide_toml.specs.declared.stops.ElementStop.{ElementStop}
use Rattle.guide_toml.specs.declared.stops.Halt.{Halt}
use Rattle.guide_toml.specs.ElementTexts.{Tokens}
use Rattle.guide_toml.specs.ElementStops.{component_read, components_stop, stop_in, stop_or}

pub stops_here : (component : ℕ) (group : Tokens) (more gs : List Tokens) (h : Halt) (whole : Option ElementStop)
    → component_read group ≡ Err h → gs ≡ group ∷ more → components_stop component gs ≡ whole → stop_in component h ≡ whole
stops_here component group more gs h whole e g w =
    sym (ap (λ r. stop_or component r (components_stop (component + 1) more)) e) ∙ ap (components_stop component) (sym g) ∙ w

pub stops_nowhere : (component : ℕ) (group rest : Tokens) (gs : List Tokens) (whole : Option ElementStop)
    → component_read group ≡ Ok rest → gs ≡ group ∷ [] → components_stop component gs ≡ whole → None ≡ whole
stops_nowhere component group rest gs whole e g w =
    sym (ap (λ r. stop_or component r (components_stop (component + 1) [])) e) ∙ ap (components_stop component) (sym g) ∙ w

pub stops_later : (component : ℕ) (group rest : Tokens) (more gs : List Tokens) (whole : Option ElementStop)
    → component_read group ≡ Ok rest → gs ≡ group ∷ more → components_stop component gs ≡ whole
    → components_stop (component + 1) more ≡ whole
stops_later component group rest more gs whole e g w =
    sym (ap (λ r. stop_or component r (components_stop (component + 1) more)) e) ∙ ap (components_stop component) (sym g) ∙ w
