use Rattle.std.proofs.Common.{◌≡◌, ◌&&◌, ℕ, List, false, true, refl, rules, ap, ◌∙◌}
use Rattle.x12_bytes.specs.HeaderTest as layer
use Rattle.hub_kinds.specs.Numbers.{is_number, value_of}
use Rattle.night_equal.proofs.ForAbove.{heads}
use Rattle.night_entries.proofs.key.header_of.Goals as goal

pub returns-in-None-clause-refused : goal.returns-in-None-clause-refused
returns-in-None-clause-refused c =
    let text : List ℕ = c.args.input.now in
    let offset : List ℕ = c.args.offset.now in
    let none : (is_number 10 offset && layer.is_head text (value_of offset)) ≡ false = search rules in
    (refl, ap (λ b. is_number 10 offset && b) (heads text (value_of offset)) ∙ none)

pub returns-in-Some-read_header-clause-good : goal.returns-in-Some-read_header-clause-good
unfolding layer.is_header
returns-in-Some-read_header-clause-good c =
    let text : List ℕ = c.args.input.now in
    let offset : List ℕ = c.args.offset.now in
    let some : (is_number 10 offset && layer.is_head text (value_of offset)) ≡ true = search rules in
    ap (λ b. is_number 10 offset && b) (heads text (value_of offset)) ∙ some
