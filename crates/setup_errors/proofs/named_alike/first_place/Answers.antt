use Rattle.std.proofs.Common.{ℕ, Option, ap, sym, ◌∙◌}
use Rattle.std.specs.Prelude.{is_some}
use Rattle.setup_errors.proofs.FirstPlaces.{place_added, place_kept}
use Rattle.setup_errors.proofs.named_alike.first_place.Goals as goal

pub returns-in_ok-insert-clause-known : goal.returns-in_ok-insert-clause-known
returns-in_ok-insert-clause-known c names knows is =
    place_added c.args.places.now c.insert.new.self c.args.name c.args.place names
    (ap (λ (o : Option ℕ). is_some o) (sym (c.copied-first.ensures ∙ c.get.ensures.value)) ∙ c.if-is_none.ensures)
    c.in_ok-insert.ensures.updates.0 knows is

pub returns-else-is_none-clause-known : goal.returns-else-is_none-clause-known
returns-else-is_none-clause-known c names knows is =
    place_kept c.args.places.now c.args.name names
    (ap (λ (o : Option ℕ). is_some o) (sym (c.copied-first.ensures ∙ c.get.ensures.value)) ∙ c.if-is_none.ensures)
    knows
