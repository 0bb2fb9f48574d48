use Rattle.std.proofs.Common.{◌≡◌, ◌++◌, ◌∷◌, [], ℕ, List, refl, ap, ◌∙◌, arith}
use Rattle.x12_write.specs.Number.{padded_number}
use Rattle.x12_write.proofs.Counting.{counted-text}
use Rattle.x12_write.proofs.trailer.counted.Goals as goal

-- what five calls write, one before the other
written : (s t : ℕ) (a b c d e f number count : List ℕ) → a ≡ [] → b ≡ t ∷ a → c ≡ number ++ b → d ≡ s ∷ c → e ≡ count ++ d → f ≡ s ∷ e
    → f ≡ s ∷ (count ++ (s ∷ (number ++ t ∷ [])))
written s t a b c d e f number count p q r u v w = rw (w, v, u, r, q, p) refl

pub returns-clause-text : goal.returns-clause-text
returns-clause-text c =
    written c.args.delims.now.element c.args.delims.now.terminator c.new-tail.result c.put.new.self c.put_number.new.self
    c.put-2.new.self c.put_number-2.new.self c.put-3.new.self (padded_number c.args.least c.args.number) (padded_number 1 c.args.count)
    c.new-tail.ensures c.put.ensures
    (c.put_number.ensures.text ∙ ap (λ (n : ℕ). padded_number c.args.least n ++ c.put.new.self) c.from.ensures)
    c.put-2.ensures c.put_number-2.ensures.text c.put-3.ensures
    ∙ counted-text c.args.delims.now.element c.args.delims.now.terminator c.args.count c.args.number c.args.least
    (omega arith) (omega arith)
