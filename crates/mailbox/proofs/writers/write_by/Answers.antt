use Rattle.std.proofs.Common.{◌≡◌, ℕ, List, ◌+◌, ◌-◌, ◌<◌, ◌∙◌, length, map, ap, sym, subst, arith, Some, IfOk}
use Rattle.std.specs.Prelude.{slice_get}
use Rattle.std.specs.List.{AllZip, range_with_len}
use Rattle.std.proofs.lemmas.Result.{IfOk-weaker}
use Rattle.rayon.proofs.ToStd.{nat_range-All}
use Rattle.rayon.specs.Numbers.{nat_range}
use Rattle.mailbox.specs.Numbers.{HasCounters}
use Rattle.mailbox.specs.Parts.{AreParts, rendered_part}
use Rattle.mailbox.specs.Rendered.{RenderedValue}
use Rattle.mailbox.specs.declared.parts.Part.{Part}
use Rattle.mailbox.proofs.Sharing.{gathering_gives}
use Rattle.mailbox.proofs.writers.write_by.Goals as goal

pub collect-requires-clause-ready : goal.collect-requires-clause-ready
collect-requires-clause-ready g c κs within =
    let ends = c.into_par_iter.ensures in
    let n = length c.args.parts.now in
    let inside = nat_range-All (λ i. (i < n) × AreParts 0 (length c.args.sets.now) c.args.parts.now × HasCounters c.args.partner.now
    × (c.args.k + length c.args.sets.now < 18446744073709551616)) 0 n
    (λ i low high. (high, c.requires.parts, c.requires.counters, c.requires.few)) in
    rw (c.map.ensures.base, c.map.ensures.f, c.with_min_len.ensures.base, ends.0, ends.1) (λ k d lt. (inside k d lt, λ y p. tt))

pub returns : goal.returns
returns g c =
    let ends = c.into_par_iter.ensures in
    let e = c.in_ok-written.ensures in
    let f = c.map.ensures.f in
    let partner : c.map.result.f.1.now ≡ c.args.partner.now = λ i. (f i).1.now in
    let k : c.map.result.f.2.now ≡ c.args.k = λ i. (f i).2.now in
    let sets : c.map.result.f.3.now ≡ c.args.sets.now = λ i. (f i).3.now in
    let parts : c.map.result.f.4.now ≡ c.args.parts.now = λ i. (f i).4.now in
    let base = (λ i. (c.map.ensures.base i).base) ∙ c.with_min_len.ensures.base in
    let whole : length c.args.parts.now - 0 ≡ length c.map.result.f.4.now =
    (omega arith) ∙ ap (λ (ps : List Part). length ps) (sym parts) in
    let places = e.1.1 ∙ (λ i. nat_range (base i).start (base i).end) ∙ (λ i. nat_range (ends.0 i) (ends.1 i))
    ∙ ap (range_with_len 0) whole in
    let made = subst (λ (l : List ℕ). AllZip {A = ℕ} (λ i r. IfOk r (λ (v : List RenderedValue). (p : Part)
    → slice_get c.map.result.f.4.now i ≡ Some p
    → v ≡ rendered_part c.map.result.f.1.now c.map.result.f.2.now c.map.result.f.3.now p)) l e.0) places e.1.2 in
    let given = gathering_gives (rendered_part c.map.result.f.1.now c.map.result.f.2.now c.map.result.f.3.now) (λ v. v.items)
    c.map.result.f.4.now e.0 c.in_ok-written.written _ e.2 made in
    IfOk-weaker c.in_ok-written.written _ _ (λ v is. is ∙ (λ i. map (rendered_part (partner i) (k i) (sets i)) (parts i))) given
