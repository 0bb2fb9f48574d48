use Rattle.std.proofs.Common.{◌≡◌, ℕ, ◌+◌, ◌-◌, List, [], ◌∷◌, ◌++◌, ◌∙◌, ap, ap₂, append-nil, append_assoc, arith, length, map, sym}
use Rattle.std.specs.Borrow.{Bor}
use Rattle.std.proofs.lemmas.List.{map-append}
use Rattle.night_marks.specs.Order.{in_order, others}
use Rattle.night_marks.specs.declared.mark.NightMark.{NightMark}
use Rattle.night_marks.proofs.Ordering.{no_more, one_more}
use Rattle.night_marks.proofs.order.in_order.Goals as goal

pub returns-in_default : goal.returns-in_default
returns-in_default c =
    let order : List NightMark = map (λ (n : Bor NightMark). n.now) c.loop-i.order.items in
    sym (append-nil order)
    ∙ ap (λ (l : List NightMark). order ++ l)
    (sym (no_more (length c.args.nights.now - c.loop-i.i) c.loop-i.last.now c.as_slice.result.now c.loop-i.left.items c.next_night.result
    c.as_slice.ensures.value c.next_night.ensures c.in_default.is))
    ∙ c.loop-i.invariant

pub loop-i-preserved : goal.loop-i-preserved
loop-i-preserved c =
    let mark : Bor NightMark → NightMark = λ n. n.now in
    let n : ℕ = length c.args.nights.now in
    let i : ℕ = c.loop-i.i in
    let next : Bor NightMark = c.in-Some.next in
    let order : List (Bor NightMark) = c.loop-i.order.items in
    let rest : List NightMark = in_order (n - (i + 1)) c.as_slice-last.result.now (map mark c.in_ok-left-2.left.items) in
    let left : map mark c.in_ok-left-2.left.items ≡ others next.now.name (map mark c.loop-i.left.items) =
    c.in_ok-left-2.ensures
    ∙ ap₂ (λ (name : List ℕ) (l : List (Bor NightMark)). others name (map mark l)) c.as_slice-last.ensures
    c.as_slice-in-loop-i.ensures.value in
    let same : rest ≡ in_order (n - (i + 1)) next.now.name (others next.now.name (map mark c.loop-i.left.items)) =
    ap₂ (λ (name : List ℕ) (l : List NightMark). in_order (n - (i + 1)) name l) c.as_slice-last.ensures left in
    ap (λ (l : List (Bor NightMark)). map mark l ++ rest) c.in_ok-push.ensures.items
    ∙ ap (λ (l : List NightMark). l ++ rest) (map-append mark order (next ∷ []))
    ∙ append_assoc (map mark order) (next.now ∷ []) rest
    ∙ ap (λ (l : List NightMark). map mark order ++ next.now ∷ l) same
    ∙ ap (λ (l : List NightMark). map mark order ++ l)
    (sym (one_more n i c.loop-i.last.now c.as_slice.result.now c.loop-i.left.items c.next_night.result next (omega (arith))
    c.as_slice.ensures.value c.next_night.ensures c.in-Some.is))
    ∙ c.loop-i.invariant
