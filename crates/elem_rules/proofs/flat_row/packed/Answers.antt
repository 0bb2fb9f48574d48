use Rattle.std.proofs.Common.{◌≡◌, ◌<◌, ◌+◌, ◌*◌, ℕ, Bool, sym, ap, ◌∙◌, arith, if◌then◌else◌}
use Rattle.elem_rules.specs.Flat.{joined}
use Rattle.elem_rules.proofs.FlatRows.{all_bytes}
use Rattle.elem_rules.proofs.flat_row.packed.Goals as goal

pub returns : goal.returns
returns c =
    let a : c.args.a < 256 = omega arith in
    let b : c.args.b < 256 = omega arith in
    let d : c.args.c < 256 = omega arith in
    let n : ℕ = joined c.args.length c.args.a c.args.b c.args.c in
    let e : c.from.result * 16777216 + (c.from-2.result * 65536 + (c.from-3.result * 256 + c.from-4.result)) ≡ n =
    omega (arith, c.from.ensures, c.from-2.ensures, c.from-3.ensures, c.from-4.ensures) in
    e ∙ sym (ap (λ (t : Bool). if t then n else 0) (all_bytes c.args.a c.args.b c.args.c a b d))
