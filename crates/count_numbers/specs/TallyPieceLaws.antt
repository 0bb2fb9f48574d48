-- What a stretch of a night leaves to be numbered for one partner (own), by pieces of the list of what happens for it.
use Rattle.std.specs.Prelude.{◌≡◌, ℕ, ◌≤◌, List, slice_range}
use Rattle.std.proofs.Common.{arith, ap, sym, ◌∙◌}
use Rattle.env_marks.specs.Laws.{PieceLaws}
use Rattle.env_marks.specs.MarkLaws.{range-split}
use Rattle.count_numbers.specs.declared.entry.Entry.{Entry}
use Rattle.count_numbers.specs.Tally.{tally_of, joined}
use Rattle.count_numbers.specs.TallyPieces.{tally_between}
use Rattle.count_numbers.specs.Tallying.{tally_append, tallies_assoc}

tally_both : (items : List Entry) (a b c : ℕ) → a ≤ b → b ≤ c
    → joined (tally_of (slice_range items a b)) (tally_of (slice_range items b c)) ≡ tally_of (slice_range items a c)
tally_both items a b c h k =
    sym (ap tally_of (range-split items a b c h k) ∙ tally_append (slice_range items a b) (slice_range items b c))

pub tally_piece_laws : PieceLaws tally_between joined
tally_piece_laws = record {
  empty_left = λ u items a b h l. tally_both items a a b (omega arith) h;
  empty_right = λ u items a b h l. tally_both items a b b h (omega arith);
  assoc = tallies_assoc;
  both = λ u items a b c h k l. tally_both items a b c h k;
}
