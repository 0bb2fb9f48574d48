use Rattle.std.proofs.Common.{ℕ, List, inl, inr, length, map, sym, ap, ◌∙◌}
use Rattle.partner_setup.specs.Names.{place_of}
use Rattle.partner_setup.specs.Tables.{sender_key}
use Rattle.partner_setup.proofs.Tabling.{none_found, sender_found}
use Rattle.partner_setup.proofs.setup.Setup.with_id.Goals as goal

pub returns-then-qualifier-ne-QUALIFIER_LEN : goal.returns-then-qualifier-ne-QUALIFIER_LEN
returns-then-qualifier-ne-QUALIFIER_LEN c =
    let setup = c.args.self.now in
    sym (none_found (length setup.guides) setup.partners c.args.qualifier.now c.args.id.now c.partners.ensures.sound
    (inl c.if-qualifier-ne-QUALIFIER_LEN.true))

pub returns-then-id-gt-ID_LEN : goal.returns-then-id-gt-ID_LEN
returns-then-id-gt-ID_LEN c =
    let setup = c.args.self.now in
    sym (none_found (length setup.guides) setup.partners c.args.qualifier.now c.args.id.now c.partners.ensures.sound
    (inr c.if-id-gt-ID_LEN.true))

pub returns : goal.returns
returns c =
    let setup = c.args.self.now in
    c.place_with_id.ensures
    ∙ ap (λ (key : List ℕ). place_of (map sender_key setup.partners) key) c.key_of-key.ensures
    ∙ sender_found (length setup.guides) setup.partners c.args.qualifier.now c.args.id.now c.partners.ensures.sound
    c.if-qualifier-ne-QUALIFIER_LEN.false
