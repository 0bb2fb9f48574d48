use Rattle.std.proofs.Common.{◌≡◌, ◌∙◌, List, ℕ, ap, arith, get_or, length, sym}
use Rattle.std.specs.List.{list_all}
use Rattle.std.proofs.lemmas.Bool.{eqb-true}
use Rattle.night_record.specs.Reading.{is_filled}
use Rattle.night_record.proofs.Sliced.{line_at, no_bytes, none, read_take}
use Rattle.night_record.proofs.parts.blank_in.Goals as goal

pub returns-then-is_empty : goal.returns-then-is_empty
returns-then-is_empty c =
    let text : List ℕ = (get_or c.args.lines.now c.loop-i.i none).now in
    let empty : length text ≡ 0 = eqb-true (length text) 0 (sym c.is_empty.ensures ∙ c.if-is_empty.true) in (
      omega arith,
      line_at c.args.lines.now c.loop-i.i ∙ no_bytes text empty,
      ap (λ (l : List (List ℕ)). list_all is_filled l) (sym (read_take c.loop-i.i c.args.lines.now)) ∙ c.loop-i.invariant,
    )
