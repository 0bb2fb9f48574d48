use Rattle.std.proofs.Common.{◌∙◌, ◌++◌, ◌∷◌, [], ℕ, List, ap}
use Rattle.std.specs.Prelude.{codes}
use Rattle.std.proofs.lemmas.Result.{on_ok_weaker}
use Rattle.x12_segs.specs.Words.{SegValue, element_of}
use Rattle.sets_again.specs.Text.{chosen_sets, count_of, group_header, trailer_text}
use Rattle.sets_again.proofs.Walking.{two}
use Rattle.sets_again.proofs.text.append_group.Goals as goal

pub returns : goal.returns
returns c =
    let text : List ℕ = c.args.text.now in
    let d = c.args.delims in
    let g = c.args.group.now in
    let chosen = c.args.chosen.now in
    let out : List ℕ = c.args.out.now.items in
    let sets : List ℕ = chosen_sets text g.sets chosen in
    let number : List ℕ = element_of g.header 6 in
    let number_is = c.element.ensures.value ∙ ap (λ (h : SegValue). element_of h 6) c.header-header.ensures in
    let bytes_are = c.bytes.ensures ∙ ap (λ (h : SegValue). h.bytes) c.header-header.ensures in
    let after : List ℕ = c.append_sets.new.out.items in
    let end : List ℕ = c.append_trailer.new.out.items in
    on_ok_weaker c.append_trailer.result (λ adds. two out c.append_ended.new.out.items end (group_header d g)
    (sets ++ trailer_text d (codes "GE") (count_of chosen) number)
    (c.in_ok-append_ended.ensures ∙ ap (λ (b : List ℕ). out ++ (b ++ d.terminator ∷ [])) bytes_are)
    (two c.append_ended.new.out.items after end sets (trailer_text d (codes "GE") (count_of chosen) number) c.in_ok-append_sets.ensures
    (adds ∙ ap (λ (n : ℕ). after ++ trailer_text d (codes "GE") n c.element.result.now) c.count_of.ensures
    ∙ ap (λ (n : List ℕ). after ++ trailer_text d (codes "GE") (count_of chosen) n) number_is)))
    c.append_trailer.ensures
