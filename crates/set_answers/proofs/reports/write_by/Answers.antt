use Rattle.std.proofs.Common.{◌≡◌, ℕ, List, ◌-◌, ◌<◌, ◌∙◌, length, ap, sym, subst, arith, Option, Some, IfOk}
use Rattle.std.specs.Prelude.{slice_get}
use Rattle.std.specs.List.{AllZip, range_with_len}
use Rattle.std.proofs.lemmas.Result.{IfOk-weaker}
use Rattle.rayon.proofs.ToStd.{nat_range-All}
use Rattle.rayon.specs.Numbers.{nat_range}
use Rattle.set_answers.specs.declared.answered.AnsweredGroup.{AnsweredGroup}
use Rattle.set_answers.specs.Shares.{numbers_from, report_of, written_from}
use Rattle.set_answers.proofs.Sharing.{gathering_gives, numbers_length}
use Rattle.set_answers.proofs.reports.write_by.Goals as goal

pub collect-requires-clause-ready : goal.collect-requires-clause-ready
collect-requires-clause-ready g c κs within =
    let ends = c.into_par_iter.ensures in
    let n = length c.args.groups.now in
    let as_many : length c.args.numbers.now ≡ n = ap (λ (ns : List ℕ). length ns) c.requires ∙ numbers_length 1 c.args.groups.now in
    let inside = nat_range-All (λ i. (i < n) × (i < length c.args.numbers.now)) 0 n
    (λ i low high. (high, omega (arith, high, as_many))) in
    rw (c.map.ensures.base, c.map.ensures.f, c.with_min_len.ensures.base, ends.0, ends.1) (λ k d lt. (inside k d lt, λ y p. tt))

pub returns : goal.returns
returns g c =
    let ends = c.into_par_iter.ensures in
    let e = c.in_ok-written.ensures in
    let f = c.map.ensures.f in
    let delims : c.map.result.f.1.now ≡ c.args.delims.now = λ i. (f i).1.now in
    let groups : c.map.result.f.2.now ≡ c.args.groups.now = λ i. (f i).2.now in
    let numbers : c.map.result.f.3.now ≡ c.args.numbers.now = λ i. (f i).3.now in
    let base = (λ i. (c.map.ensures.base i).base) ∙ c.with_min_len.ensures.base in
    let whole : length c.args.groups.now - 0 ≡ length c.map.result.f.2.now =
    (omega arith) ∙ ap (λ (gs : List (Option AnsweredGroup)). length gs) (sym groups) in
    let places = e.1.1 ∙ (λ i. nat_range (base i).start (base i).end) ∙ (λ i. nat_range (ends.0 i) (ends.1 i))
    ∙ ap (range_with_len 0) whole in
    let made = subst (λ (l : List ℕ). AllZip {A = ℕ} (λ i r. IfOk r (λ (v : List ℕ). (n : ℕ) (g : Option AnsweredGroup)
    → slice_get c.map.result.f.3.now i ≡ Some n → slice_get c.map.result.f.2.now i ≡ Some g
    → v ≡ report_of c.map.result.f.1.now n g)) l e.0) places e.1.2 in
    let are : c.map.result.f.3.now ≡ numbers_from 1 c.map.result.f.2.now =
    numbers ∙ c.requires ∙ ap (numbers_from 1) (sym groups) in
    let given = gathering_gives _ c.map.result.f.1.now c.map.result.f.3.now c.map.result.f.2.now (λ v. v.items)
    e.0 c.in_ok-written.written _ are e.2 made in
    IfOk-weaker c.in_ok-written.written _ _ (λ v is. is ∙ (λ i. written_from (delims i) 1 (groups i))) given
