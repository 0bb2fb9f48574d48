use Rattle.std.proofs.Common.{◌≡◌, ℕ, ◌+◌, List, [], ◌∷◌, ◌++◌, map, sym, ap, ◌∙◌, arith, append_assoc, append-nil}
use Rattle.std.specs.Prelude.{slice_range}
use Rattle.x12_segs.specs.Words.{parts, part_at, segs_of}
use Rattle.x12_segs.proofs.ForAbove.{parts-none}
use Rattle.env_marks.specs.declared.frag.Mark.{Mark}
use Rattle.env_marks.specs.Marking.{mark_of, last_of}
use Rattle.env_marks.proofs.PartSteps.{IsPartCut, part_found, marks_found, last_found}
use Rattle.env_marks.proofs.lex.list_marks.Goals as goal

pub loop-len-preserved : goal.loop-len-preserved
loop-len-preserved c =
    let text : List ℕ = c.args.text.now in
    let at : ℕ = c.loop-len.at in
    let to : ℕ = c.args.to in
    let len : ℕ = c.in-Some.len in
    let e : ℕ = c.args.pair.element in
    let t : ℕ = c.args.pair.terminator in
    let cut : IsPartCut text t at to len = part_found text t at to len c.in-Some.ensures in
    let below = cut.below in
    let low = c.loop-len.invariant.low in
    let next : at + len + 1 ≡ at + (len + 1) = omega arith in
    let later : ℕ → List Mark = λ n. map (mark_of e) (segs_of n (parts t (slice_range text n to))) in
    let here : List Mark = map (mark_of e) (part_at at (slice_range text at (at + len))) in
    record {
      low = omega (arith, low);
      high = omega (arith, below);
      found = ap (λ n. c.push_part.new.list.items ++ later n) (sym next)
          ∙ ap (λ (l : List Mark). l ++ later (at + len + 1)) c.in_ok-push_part.ensures
          ∙ append_assoc c.loop-len.list.items here (later (at + len + 1))
          ∙ ap (λ (l : List Mark). c.loop-len.list.items ++ l) (sym (marks_found text e t at to len cut))
          ∙ c.loop-len.invariant.found;
      last = ap (λ n. last_of e n (parts t (slice_range text n to))) (sym next) ∙ sym (last_found text e t at to len cut)
          ∙ c.loop-len.invariant.last;
    }

pub returns-clause-list : goal.returns-clause-list
returns-clause-list c =
    let text : List ℕ = c.args.text.now in
    let at : ℕ = c.loop-len.at in
    let e : ℕ = c.args.pair.element in
    let t : ℕ = c.args.pair.terminator in
    let none : parts t (slice_range text at c.args.to) ≡ slice_range text at c.args.to ∷ []
    = parts-none t (slice_range text at c.args.to) c.in_default.ensures in
    sym (append-nil c.loop-len.list.items)
    ∙ ap (λ (ps : List (List ℕ)). c.loop-len.list.items ++ map (mark_of e) (segs_of at ps)) (sym none)
    ∙ c.loop-len.invariant.found

pub returns-clause-last : goal.returns-clause-last
returns-clause-last c =
    let text : List ℕ = c.args.text.now in
    let at : ℕ = c.loop-len.at in
    let e : ℕ = c.args.pair.element in
    let t : ℕ = c.args.pair.terminator in
    let none : parts t (slice_range text at c.args.to) ≡ slice_range text at c.args.to ∷ []
    = parts-none t (slice_range text at c.args.to) c.in_default.ensures in
    ap (last_of e at) (sym none) ∙ c.loop-len.invariant.last
