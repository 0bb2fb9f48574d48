use Rattle.std.proofs.Common.{◌≡◌, ◌-◌, true, false, refl, sym, subst, arith, rules}
use Rattle.whole_interchanges.specs.Begun.{are_fields_begun, is_field_begun}
use Rattle.whole_interchanges.proofs.Begins.{all_begun, one_not_begun}
use Rattle.whole_interchanges.proofs.begin.are_fields_begun.Goals as goal

pub returns-then-not-is_field_begun : goal.returns-then-not-is_field_begun
returns-then-not-is_field_begun c =
    let none : is_field_begun c.args.bytes.now c.loop-k.k ≡ false = search rules in
    sym (one_not_begun c.args.bytes.now c.loop-k.k 16 (omega arith) (omega arith) none)

pub loop-k-preserved : goal.loop-k-preserved
loop-k-preserved c =
    let yes : is_field_begun c.args.bytes.now c.loop-k.k ≡ true = search rules in
    let here : are_fields_begun c.args.bytes.now c.loop-k.k ≡ true =
    all_begun c.args.bytes.now (c.loop-k.k - 1) c.loop-k.k (omega arith) c.loop-k.invariant.begun yes in
    record {
      from = omega arith;
      begun = subst (λ k. are_fields_begun c.args.bytes.now k ≡ true) (omega arith) here;
    }

pub loop-k-init : goal.loop-k-init
unfolding are_fields_begun
loop-k-init c = record { from = omega arith; begun = refl }
