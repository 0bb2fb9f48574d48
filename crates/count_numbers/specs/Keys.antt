-- Keys that are the same are equal, and counts are added in any order.
use Rattle.std.proofs.Common.{◌≡◌, ℕ, Bool, true, false, ◌&&◌, List, refl, ap, ◌∙◌, arith}
use Rattle.std.proofs.lemmas.Bool.{eqb-true}
use Rattle.std.proofs.lemmas.Slice.Eq.{bytes_eq-Decides}
use Rattle.count_numbers.specs.declared.run.RunKey.{RunKey}
use Rattle.count_numbers.specs.Runs.{same_key, together}

pub both_are : (a b : Bool) → (a && b) ≡ true → (a ≡ true) × (b ≡ true)
both_are true b h = (refl, h)
both_are false b h = grind arith

pub same_fields : (a b : RunKey) → a.sender ≡ b.sender → a.functional_id ≡ b.functional_id → a.version ≡ b.version → a ≡ b
same_fields a b s f v =
    ap (λ (x : ℕ). record { sender = x; functional_id = a.functional_id; version = a.version }) s
    ∙ ap (λ (x : List ℕ). record { sender = b.sender; functional_id = x; version = a.version }) f
    ∙ ap (λ (x : List ℕ). record { sender = b.sender; functional_id = b.functional_id; version = x }) v

pub equal_keys : (a b : RunKey) → same_key a b ≡ true → a ≡ b
equal_keys a b h =
    let one = both_are _ _ h in
    let two = both_are _ _ one.0 in
    same_fields a b (eqb-true a.sender b.sender two.0)
    ((bytes_eq-Decides a.functional_id b.functional_id).0 two.1)
    ((bytes_eq-Decides a.version b.version).0 one.1)

pub together_assoc : (a b c : ℕ) → together (together a b) c ≡ together a (together b c)
together_assoc a b c = omega arith
