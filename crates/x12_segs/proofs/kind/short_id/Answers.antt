use Rattle.std.proofs.Common.{◌≡◌, ℕ, List, true, Some, nat_eq, get_or, sym, ap, subst, arith, rules}
use Rattle.memchr.specs.Find.{IsFirstByte, is_byte}
use Rattle.x12_segs.specs.Kinds.{kind_by_id}
use Rattle.x12_segs.proofs.ShortIds.{id_found, id_not_found}
use Rattle.x12_segs.proofs.kind.short_id.Goals as goal

pub returns-then-bytes-at : goal.returns-then-bytes-at
returns-then-bytes-at c =
    let bytes : List ℕ = c.args.bytes.now in
    let e : ℕ = c.args.element in
    let at : ℕ = c.loop-at.at in
    let same : get_or bytes at 0 ≡ e = c.if-bytes-at.true in
    let yes : nat_eq e e ≡ true = search rules in
    let found : IsFirstByte (is_byte e) bytes (Some at) = (
      record { low = omega arith; high = omega (arith, c.loop-at-test.true, c.min-most.ensures); before = c.loop-at.invariant },
      subst (λ b. nat_eq b e ≡ true) (sym same) yes,
    ) in
    ap kind_by_id (sym (id_found e bytes at found))

pub returns : goal.returns
returns c =
    id_not_found c.args.element c.args.bytes.now c.min-most.result
    (λ j low lt. c.loop-at.invariant j low (omega (arith, lt, c.loop-at-test.false))) (omega (arith, c.min-most.ensures))
    (omega (arith, c.min-most.ensures)) (λ lt. omega (arith, lt, c.min-most.ensures))
