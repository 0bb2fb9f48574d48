use Rattle.std.proofs.Common.{◌≡◌, ℕ, ◌+◌, List, [], ◌∷◌, map, sym, ap, ◌∙◌}
use Rattle.std.specs.Prelude.{slice_range}
use Rattle.x12_segs.specs.Words.{parts, segs_of}
use Rattle.x12_segs.proofs.ForAbove.{parts-none}
use Rattle.env_marks.specs.declared.frag.Mark.{Mark}
use Rattle.env_marks.specs.Frags.{frag_of}
use Rattle.env_marks.specs.Marking.{Marking, MarksValue, Uncut, Cut, mark_of, marking_of}
use Rattle.env_marks.proofs.PartSteps.{IsPartCut, part_found, marking_found}
use Rattle.env_marks.proofs.lex.marks_of.Goals as goal

pub returns-in_default : goal.returns-in_default
returns-in_default c =
    let text : List ℕ = c.args.text.now in
    let from : ℕ = c.args.piece.from in
    let to : ℕ = c.args.piece.to in
    let none : parts c.args.pair.terminator (slice_range text from to) ≡ slice_range text from to ∷ []
    = parts-none c.args.pair.terminator (slice_range text from to) c.in_default.ensures in
    c.uncut.ensures
    ∙ ap (λ f. (let v : MarksValue = record { pair = c.args.pair; marking = Uncut f } in v)) c.frag_of.ensures
    ∙ ap (λ (ps : List (List ℕ)).
    (let v : MarksValue = record { pair = c.args.pair; marking = marking_of c.args.pair.element from ps } in v)) (sym none)

pub returns : goal.returns
returns c =
    let text : List ℕ = c.args.text.now in
    let from : ℕ = c.args.piece.from in
    let to : ℕ = c.args.piece.to in
    let len : ℕ = c.in-Some.len in
    let e : ℕ = c.args.pair.element in
    let t : ℕ = c.args.pair.terminator in
    let cut : IsPartCut text t from to len = part_found text t from to len c.in-Some.ensures in
    let value : Marking → MarksValue = λ m. record { pair = c.args.pair; marking = m } in
    c.cut.ensures
    ∙ ap (λ f. value (Cut f c.in_ok-list.list.items c.frag_of-last.result)) c.frag_of-first.ensures
    ∙ ap (λ (l : List Mark). value
    (Cut (frag_of e from (slice_range text from (from + len))) l c.frag_of-last.result)) c.in_ok-list.ensures.list
    ∙ ap (λ f. value (Cut (frag_of e from (slice_range text from (from + len)))
    (map (mark_of e) (segs_of (from + len + 1) (parts t (slice_range text (from + len + 1) to)))) f))
    (c.frag_of-last.ensures ∙ c.in_ok-list.ensures.last)
    ∙ ap value (sym (marking_found text e t from to len cut))
