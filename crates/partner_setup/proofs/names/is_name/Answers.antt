use Rattle.std.proofs.Common.{ℕ, Option, ap, ◌∙◌}
use Rattle.std.specs.Prelude.{is_some}
use Rattle.partner_setup.proofs.Naming.{found_name}
use Rattle.partner_setup.proofs.names.is_name.Goals as goal

pub returns : goal.returns
returns c names knows =
    c.is_some.ensures ∙ ap (λ (o : Option ℕ). is_some o) (c.place_of.ensures names knows) ∙ found_name names c.args.name.now
