use Rattle.std.proofs.Common.{◌≡◌, ◌≤◌, ◌+◌, true, length, sym, arith}
use Rattle.std.proofs.lemmas.Bool.{false_from_ne_true}
use Rattle.x12_bytes.specs.HeaderTest.{is_head}
use Rattle.x12_bytes.proofs.Testing.{decides_head}
use Rattle.x12_bytes.proofs.read.read_header.Goals as goal

pub returns-then-is_header-clause-test : goal.returns-then-is_header-clause-test
returns-then-is_header-clause-test c =
    let within : c.args.at + 106 ≤ length c.args.text.now = omega arith in
    sym ((decides_head c.args.text.now c.args.at).1 (within, c.is_header.ensures.0 c.if-is_header.true))

pub returns-else-is_header-clause-test : goal.returns-else-is_header-clause-test
returns-else-is_header-clause-test c =
    let other : is_head c.args.text.now c.args.at ≡ true
    → ⊥ = λ yes. absurd (let is_true = c.is_header.ensures.1 ((decides_head c.args.text.now c.args.at).0 yes).1 in grind
    (arith, is_true, c.if-is_header.false)) in
    sym (false_from_ne_true (is_head c.args.text.now c.args.at) other)
