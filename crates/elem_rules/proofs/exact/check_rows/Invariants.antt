use Rattle.std.proofs.Common.{◌≡◌, ◌++◌, []}
use Rattle.std.specs.Option.{option_map_or}
use Rattle.x12_segs.specs.Words.{elements_of}
use Rattle.elem_rules.specs.Rows.{nth}
use Rattle.elem_rules.specs.Found.{up_to, text_at, texts_of, element_found}
use Rattle.elem_rules.proofs.exact.check_rows.Given as goal

abbrev pub invariant-loop-k : goal.invariant-loop-k
invariant-loop-k l =
    l.found ≡ l.initial.found
    ++ up_to (λ k. option_map_or (λ row. element_found l.seg.delims k row (text_at (texts_of l.slot (elements_of l.seg)) k))
    (nth l.slot.elements k) []) l.k
