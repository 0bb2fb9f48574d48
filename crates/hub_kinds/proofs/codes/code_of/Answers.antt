use Rattle.std.proofs.Common.{ℕ, ◌+◌, List, Some, None, drop, cond, find, bytes_eq, refl, sym, ap, ◌∙◌}
use Rattle.std.proofs.lemmas.List.{at_drop_all}
use Rattle.hub_kinds.proofs.Reading.{read_back, find-at}
use Rattle.hub_kinds.proofs.codes.code_of.Goals as goal

pub loop-code-init : goal.loop-code-init
loop-code-init g c = refl

pub returns-then-eq : goal.returns-then-eq
returns-then-eq g c =
    let text : List ℕ = c.args.text.now in
    let all = c.all-code-items.result.now in
    let code = c.code-item.result in
    let rest = find (λ other. bytes_eq (g.C.Code.text other) text) (drop (c.loop-code.code-index + 1) all) in
    let same = ap (λ (b : List ℕ). bytes_eq b text) (sym c.text.ensures ∙ sym c.as_bytes.ensures.value) in
    let passes = same ∙ sym c.eq.ensures ∙ c.if-eq.true in
    let first = find-at (λ other. bytes_eq
    (g.C.Code.text other) text) all c.loop-code.code-index code c.loop-code-test.true c.code-item.is in
    let found = c.loop-code.invariant ∙ first ∙ ap (λ b. cond b (Some code) rest) passes in
    read_back g.C.Code.text text all c.all-code-items.ensures (Some code) found

pub loop-code-preserved : goal.loop-code-preserved
loop-code-preserved g c =
    let text : List ℕ = c.args.text.now in
    let all = c.all-code-items.result.now in
    let code = c.code-item.result in
    let rest = find (λ other. bytes_eq (g.C.Code.text other) text) (drop (c.loop-code.code-index + 1) all) in
    let same = ap (λ (b : List ℕ). bytes_eq b text) (sym c.text.ensures ∙ sym c.as_bytes.ensures.value) in
    let fails = same ∙ sym c.eq.ensures ∙ c.if-eq.false in
    let first = find-at (λ other. bytes_eq
    (g.C.Code.text other) text) all c.loop-code.code-index code c.loop-code-test.true c.code-item.is in
    c.loop-code.invariant ∙ first ∙ ap (λ b. cond b (Some code) rest) fails

pub returns : goal.returns
returns g c =
    let text : List ℕ = c.args.text.now in
    let all = c.all-code-items.result.now in
    let none = at_drop_all (find (λ other. bytes_eq (g.C.Code.text other) text)) all c.loop-code.code-index c.loop-code-test.false in
    read_back g.C.Code.text text all c.all-code-items.ensures None (c.loop-code.invariant ∙ none)
