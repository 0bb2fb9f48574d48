use Rattle.std.proofs.Common.{◌++◌, ◌∷◌, [], ℕ, List, ap, ◌∙◌, arith}
use Rattle.std.specs.Prelude.{decimal}
use Rattle.x12_write.specs.Segment.{end_text}
use Rattle.x12_write.proofs.Counting.{one-digit}
use Rattle.x12_write.proofs.group.append_group_trailer.Goals as goal

pub returns-clause-text : goal.returns-clause-text
returns-clause-text c =
    let end = c.counted-tail.ensures.text
    ∙ ap (λ (n : List ℕ). end_text c.args.delims.now (decimal c.args.sets ∷ n ∷ [])) (one-digit c.args.control (omega arith)) in
    c.in_ok-extend_from_slice.ensures.items
    ∙ ap (λ (t : List ℕ). c.args.out.now.items ++ t)
    (c.bytes.ensures ∙ c.put-2.ensures ∙ ap (λ (t : List ℕ). 71 ∷ t) (c.put.ensures ∙ ap (λ (t : List ℕ). 69 ∷ t) end))
