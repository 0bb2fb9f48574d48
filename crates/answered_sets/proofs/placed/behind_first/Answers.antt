use Rattle.std.proofs.Common.{◌≡◌, ◌+◌, List, ℕ, length, map, take, drop, refl, ap, sym, ◌∙◌, arith}
use Rattle.std.proofs.lemmas.List.{length-take-le}
use Rattle.x12_segs.specs.Words.{SegValue, views}
use Rattle.answered_sets.proofs.Behind.{AreBehind, behind_first, behind_none}
use Rattle.answered_sets.proofs.placed.behind_first.Goals as goal

pub rest_of-requires : goal.rest_of-requires
rest_of-requires c =
    let told : AreBehind c.args.text.now c.args.span.now c.in-Some.first =
    behind_first c.args.text.now c.args.span.now c.in-Some.first c.next.new.self c.requires.within
    (sym c.segments_in.ensures ∙ c.in-Some.ensures.steps) in
    let here : c.start.result + length c.bytes.result.now + 1 ≡ c.in-Some.first.start + length c.in-Some.first.bytes + 1 =
    rw (c.start.ensures, c.bytes.ensures) refl in
    let long : length c.front_of-in-Some.result.now ≡ c.args.span.now.end =
    ap (λ (l : List ℕ). length l) c.front_of-in-Some.ensures ∙ length-take-le c.args.span.now.end c.args.text.now c.requires.within in
    omega (arith, told.within, here, long)

pub returns-in-Some : goal.returns-in-Some
returns-in-Some c =
    let told : AreBehind c.args.text.now c.args.span.now c.in-Some.first =
    behind_first c.args.text.now c.args.span.now c.in-Some.first c.next.new.self c.requires.within
    (sym c.segments_in.ensures ∙ c.in-Some.ensures.steps) in
    let read : c.rest_of.result.now
    ≡ drop (c.in-Some.first.start + length c.in-Some.first.bytes + 1) (take c.args.span.now.end c.args.text.now) =
    rw (c.rest_of.ensures, c.start.ensures, c.bytes.ensures, c.front_of-in-Some.ensures) refl in
    told.segs ∙ ap (λ (l : List ℕ). map (λ (s : SegValue). s.bytes) (views l c.args.span.now.delims)) (sym read)

pub returns-in-None : goal.returns-in-None
returns-in-None c =
    behind_none c.args.text.now c.args.span.now (sym c.segments_in.ensures ∙ c.in-None.ensures.steps.0)
    ∙ ap (λ (l : List ℕ). map (λ (s : SegValue). s.bytes) (views l c.args.span.now.delims)) (sym c.front_of.ensures)
