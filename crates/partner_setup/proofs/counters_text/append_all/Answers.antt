use Rattle.std.proofs.Common.{◌++◌, ℕ, List, get_or, refl, sym, ap, ◌∙◌, arith}
use Rattle.hub_kinds.specs.declared.counters.Counters.{Counters}
use Rattle.partner_setup.specs.CountersText.{counter_lines}
use Rattle.partner_setup.specs.declared.partner.Partner.{Partner}
use Rattle.partner_setup.proofs.Lines.{one_line_on}
use Rattle.partner_setup.proofs.counters_text.append_all.Goals as goal

pub loop-i-preserved : goal.loop-i-preserved
loop-i-preserved c =
    let p = c.index-partners-i.result in
    let none : Counters = record { interchange = 0; group = 0; set = 0 } in
    let next : Counters = get_or c.args.next.now c.loop-i.i none in
    let many = c.requires in
    let few = c.loop-i-test.true in
    one_line_on c.loop-i.out.items c.append_counter.new.out.items _ c.args.partners.now c.args.next.now c.loop-i.i p next none few
    (omega (arith, many, few)) c.index-partners-i.is refl
    (c.in_ok-append_counter.ensures
    ∙ ap (λ (name : List ℕ). c.loop-i.out.items ++ counter_lines name next)
    (c.as_slice.ensures ∙ ap (λ (x : Partner). x.name) (sym c.index-partners-i.is))) c.loop-i.invariant
