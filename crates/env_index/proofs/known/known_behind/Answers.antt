use Rattle.std.proofs.Common.{◌≡◌, ◌<◌, ◌≤◌, ℕ, drop, sym, ap, subst, ◌∙◌, arith}
use Rattle.std.proofs.lemmas.List.{take_rest}
use Rattle.x12_bytes.specs.declared.pair.Pair.{Pair}
use Rattle.env_marks.specs.declared.frag.Frag.{Frag}
use Rattle.env_marks.specs.Shown.{first_shown, end_shown, list_shown}
use Rattle.env_index.specs.Known.{AreNext}
use Rattle.env_index.proofs.KnownSegs.{IsKnown, known_marks}
use Rattle.env_index.proofs.known.known_behind.Goals as goal

pub returns : goal.returns
returns c = λ text marks byte.
    let t : ℕ = c.args.terminator in
    let at : ℕ = c.args.at in
    let pair : c.args.marks.now.pair.terminator ≡ t = ap (λ (p : Pair). p.terminator) (sym c.pair.ensures)
    ∙ (let same : c.pair.result.terminator ≡ t = omega (arith, c.if-pair-terminator.false) in same) in
    let first : (first_shown c.args.marks.now.marking).to < at
    = subst (λ (f : Frag). f.to < at) c.first.ensures (omega (arith, c.if-at-first.false)) in
    let end : at ≤ end_shown c.args.marks.now.marking = subst (λ n. at ≤ n) c.end.ensures (omega (arith, c.if-end-at.false)) in
    let known : IsKnown text t at (list_shown c.args.marks.now.marking)
    = known_marks text c.args.marks.now t at marks pair byte first end in
    let list : IsKnown text t at c.list-list.result.now = subst (IsKnown text t at) (sym c.list-list.ensures) known in
    let count : c.count_before.result ≡ list.count = c.count_before.ensures.value list.count list.divided in
    subst (AreNext text t at) (sym (take_rest c.list-list.result.now c.count_before.result))
    (subst (λ k. AreNext text t at (drop k c.list-list.result.now)) (sym count) list.next)
