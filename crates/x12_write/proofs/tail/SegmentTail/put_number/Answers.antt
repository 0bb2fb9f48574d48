use Rattle.std.proofs.Common.{◌≡◌, ◌-◌, ◌++◌, ℕ, List, drop, length, take, sym, ap, subst, ◌∙◌, arith, length-append}
use Rattle.std.specs.Prelude.{decimal, replicate}
use Rattle.std.proofs.lemmas.Fmt.{length-decimal-le}
use Rattle.std.proofs.lemmas.List.{length-drop, length-replicate}
use Rattle.x12_write.specs.Number.{padded_number}
use Rattle.x12_write.proofs.Padding.{padded_number-before, zeros-before}
use Rattle.x12_write.proofs.tail.SegmentTail.put_number.Goals as goal

pub write_digits-start-requires : goal.write_digits-start-requires
write_digits-start-requires c =
    let digits = length-decimal-le 20 c.args.number (omega arith) (omega arith) (omega arith) in
    let shown : length (drop c.self.inside.start c.self.inside.bytes) ≡ length c.args.self.now =
    ap (λ (t : List ℕ). length t) c.self.view_is in
    let left = length-drop c.self.inside.start c.self.inside.bytes in (
      omega (arith, digits, shown, left, c.self.told, c.self.invariant.0, c.requires.room),
      omega (arith, c.self.told, c.self.invariant.0),
    )

pub invariant_of-self : goal.invariant_of-self
invariant_of-self c = (
  omega (arith, c.min-self-inside.ensures, c.self.invariant.0),
  subst (λ (k : ℕ). take k c.write_digits-start.new.buf ≡ replicate k 48) (sym c.min-self-inside.ensures)
      (zeros-before c.args.least c.args.number c.write_digits-start.result c.self.inside.start c.write_digits-start.new.buf
      c.self.inside.bytes (drop c.self.inside.start c.self.inside.bytes) c.write_digits-start.ensures.start
      c.write_digits-start.ensures.written c.write_digits-start.ensures.before c.self.invariant.1),
)

pub returns-clause-text : goal.returns-clause-text
returns-clause-text c =
    let shown : length (drop c.self.inside.start c.self.inside.bytes) ≡ length c.args.self.now =
    ap (λ (t : List ℕ). length t) c.self.view_is in
    let left = length-drop c.self.inside.start c.self.inside.bytes in
    ap (λ (k : ℕ). drop k c.write_digits-start.new.buf) c.min-self-inside.ensures
    ∙ padded_number-before c.args.least c.args.number c.write_digits-start.result c.self.inside.start c.write_digits-start.new.buf
    c.self.inside.bytes (drop c.self.inside.start c.self.inside.bytes)
    (omega (arith, shown, left, c.self.told, c.self.invariant.0, c.requires.room, c.requires.least)) c.write_digits-start.ensures.start
    c.write_digits-start.ensures.written c.write_digits-start.ensures.before c.self.invariant.1
    ∙ ap (λ (t : List ℕ). padded_number c.args.least c.args.number ++ t) c.self.view_is

pub returns-clause-room : goal.returns-clause-room
returns-clause-room c =
    let digits = length-decimal-le 20 c.args.number (omega arith) (omega arith) (omega arith) in
    let long = ap (λ (t : List ℕ). length t) (returns-clause-text c) in
    let whole = length-append (padded_number c.args.least c.args.number) c.args.self.now in
    let number = length-append (replicate (c.args.least - length (decimal c.args.number)) 48) (decimal c.args.number) in
    let zeros : length (replicate {A = ℕ} (c.args.least - length (decimal c.args.number)) 48)
    ≡ c.args.least - length (decimal c.args.number) = length-replicate (c.args.least - length (decimal c.args.number)) 48 in
    omega (arith, digits, long, whole, number, zeros, c.requires.least)
