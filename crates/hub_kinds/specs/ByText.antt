-- Own: the order of lent texts, by their bytes from first to last.
use Rattle.std.specs.Prelude.{ℕ, List}
use Rattle.std.specs.Cmp.Lexicographic.{slice_cmp}
use Rattle.std.specs.Ordering.{nat_cmp}
use Rattle.std.specs.declared.cmp.Ordering.{Ordering}
use denote.Ref.{Bor}

-- the order of lent texts
abbrev pub by_text : Bor (List ℕ) → Bor (List ℕ) → Ordering
by_text a b = slice_cmp nat_cmp a.now b.now
