use Rattle.std.proofs.Common.{◌≡◌, ◌∙◌, ◌+◌, ◌&&◌, ℕ, Bool, List, true, false, ap, arith, drop, length, map, rules, sym}
use Rattle.std.proofs.lemmas.List.{length-map}
use Rattle.std.specs.Borrow.{Bor}
use Rattle.csv.specs.declared.record.ByteRecord.{ByteRecord}
use Rattle.csv.specs.Records.{fields_of}
use Rattle.x12_segs.specs.Words.{SegValue, element_of}
use Rattle.sets_again.specs.Fits.{is_row_of, sets_fit}
use Rattle.sets_again.specs.Rows.{Row}
use Rattle.sets_again.proofs.Steps.{lengths, not_true, set_step}
use Rattle.sets_again.proofs.Walking.{drop_one}
use Rattle.sets_again.proofs.fits.sets_fit.Goals as goal

pub returns-then-rows-set_count : goal.returns-then-rows-set_count
returns-then-rows-set_count c =
    let f : Bor ByteRecord → Row = λ r. fields_of r.now in
    let number : List ℕ = element_of c.args.group.now.header 6 in
    not_true (sets_fit number c.args.group.now.sets (map f c.args.rows.now))
    (λ is. omega (
      arith,
      lengths number c.args.group.now.sets (map f c.args.rows.now) is,
      length-map c.args.rows.now f,
      c.set_count.ensures,
      c.if-rows-set_count.true,
    ))

pub returns-then-not-is_row_of : goal.returns-then-not-is_row_of
returns-then-not-is_row_of c =
    let f : Bor ByteRecord → Row = λ r. fields_of r.now in
    let number : List ℕ = c.element-number.result.now in
    let sets = c.args.group.now.sets in
    let rows = c.args.rows.now in
    let i = c.loop-i.i in
    let row = c.index-rows-i.result in
    let others : Bool = sets_fit number (drop (i + 1) sets) (map f (drop (i + 1) rows)) in
    let fails : c.is_row_of.result ≡ false = search rules in
    sym (ap (λ (n : List ℕ). sets_fit n sets (map f rows)) (sym (c.element-number.ensures.value
    ∙ ap (λ (h : SegValue). element_of h 6) c.header-header.ensures))
    ∙ sym c.loop-i.invariant
    ∙ set_step f number sets rows i c.set.result row c.set.ensures (drop_one rows i row (omega (arith)) c.index-rows-i.is)
    ∙ ap (λ (b : Bool). b && others) (sym c.is_row_of.ensures ∙ fails))

pub loop-i-preserved : goal.loop-i-preserved
loop-i-preserved c =
    let f : Bor ByteRecord → Row = λ r. fields_of r.now in
    let number : List ℕ = c.element-number.result.now in
    let sets = c.args.group.now.sets in
    let rows = c.args.rows.now in
    let i = c.loop-i.i in
    let row = c.index-rows-i.result in
    let others : Bool = sets_fit number (drop (i + 1) sets) (map f (drop (i + 1) rows)) in
    let holds : c.is_row_of.result ≡ true = search rules in
    sym (set_step f number sets rows i c.set.result row c.set.ensures (drop_one rows i row (omega (arith)) c.index-rows-i.is)
    ∙ ap (λ (b : Bool). b && others) (sym c.is_row_of.ensures ∙ holds))
    ∙ c.loop-i.invariant
