use Rattle.std.proofs.Common.{◌≡◌, ◌↔◌, ◌∙◌, ℕ, List, ap₂, length, rules, subst}
use Rattle.std.specs.Prelude.{vec_len}
use Rattle.breach_lines.specs.Lines.{report_text}
use Rattle.night_breaches.specs.declared.breach.Breach.{Breach}
use Rattle.night_marks.specs.declared.link.BrokenLink.{BrokenLink}
use Rattle.night_review.proofs.GoingOn.{judged_by}
use Rattle.night_review.proofs.judge.judged.Goals as goal

pub returns-clause-judged : goal.returns-clause-judged
returns-clause-judged c =
    let bad : Type 0 = length c.args.bad.now ≡ 0 in
    let nights : vec_len c.in_ok-nights.nights ≡ length c.in_ok-nights.nights.items = search rules in
    let links : vec_len c.in_ok-links.links ≡ length c.in_ok-links.links.items = search rules in
    let found : vec_len c.in_ok-found.found ≡ length c.in_ok-found.found.items = search rules in
    let zero =
    subst (λ (n : ℕ). (c.is_clean.result ≡ 0) ↔ (bad × (length c.in_ok-links.links.items ≡ 0) × (n ≡ 0))) (c.len-3.ensures ∙ found)
    (subst (λ (n : ℕ). (c.is_clean.result ≡ 0) ↔ (bad × (n ≡ 0) × (c.len-3.result ≡ 0))) (c.len-2.ensures ∙ links)
    c.is_clean.ensures.zero) in
    judged_by c.args.limit.now c.args.named.now c.args.order.now c.in_ok-nights.nights.items c.args.entries.now c.args.bad.now
    c.in_ok-text.text.items c.in_ok-lines.lines.items c.is_clean.result c.in_ok-count_addresses.field-0 c.archived_count.result
    c.len.result c.in_ok-links.links.items c.in_ok-found.found.items c.in_ok-text.ensures c.archived_count.ensures
    (c.in_ok-lines.ensures ∙ ap₂ (λ (l : List BrokenLink) (f : List Breach).
    report_text c.len.result c.in_ok-count_addresses.field-0 c.args.bad.now l f) c.as_slice.ensures.value
    c.as_slice-2.ensures.value)
    (c.len.ensures ∙ nights) c.in_ok-nights.ensures c.in_ok-count_addresses.ensures c.in_ok-links.ensures c.in_ok-found.ensures.found
    c.in_ok-found.ensures.none zero
