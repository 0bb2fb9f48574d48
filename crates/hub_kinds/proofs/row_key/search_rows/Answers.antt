use Rattle.std.proofs.Common.{rules}
use Rattle.std.specs.Ordering.{nat_cmp}
use Rattle.std.specs.Cmp.Lexicographic.{slice_cmp}
use Rattle.std.proofs.lemmas.Fn.{always_returns_same}
use Rattle.hub_kinds.specs.Rows.{row_key}
use Rattle.hub_kinds.proofs.row_key.search_rows.Goals as goal

pub returns-clause-position : goal.returns-clause-position
returns-clause-position c =
    c.binary_search_by.ensures.position (λ row. slice_cmp nat_cmp (row_key c.args.whole.now row) c.args.wanted.now)
    (always_returns_same _ _ _ (λ a r g called. search rules))
