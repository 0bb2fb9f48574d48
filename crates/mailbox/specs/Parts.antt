-- Private. How a list is shared by threads (own).
use Rattle.std.specs.Prelude.{◌≡◌, ℕ, ◌+◌, ◌≤◌, List, [], ◌∷◌, slice_range}
use Rattle.partner_setup.specs.declared.partner.Partner.{Partner}
use Rattle.answered_sets.specs.Judged.{PlacedValue}
use Rattle.mailbox.specs.Rendered.{RenderedValue, rendered_from}
use Rattle.mailbox.specs.declared.parts.Part.{Part}

-- one after the other, from one place of a list up to another
abbrev pub AreParts : (from to : ℕ) → List Part → Type 0
AreParts from to [] = from ≡ to
AreParts from to (p ∷ ps) = (p.from ≡ from) × (from ≤ p.to) × AreParts p.to to ps

-- what is written of a part of the sets that are delivered to a partner
abbrev pub rendered_part : Partner → (k : ℕ) → List PlacedValue → Part → List RenderedValue
rendered_part partner k sets p = rendered_from partner (k + p.from) (slice_range sets p.from p.to)
