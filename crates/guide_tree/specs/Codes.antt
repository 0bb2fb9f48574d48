-- X12.6, code list (own): an ordered set that has just the texts of a list. Private.
use Rattle.std.specs.Prelude.{ℕ, ◌≡◌, Bool, List, Vec}
use Rattle.std.specs.BTreeSet.{BTreeSet, contains_by}
use Rattle.std.specs.Cmp.Lexicographic.{slice_cmp}
use Rattle.std.specs.Ordering.{nat_cmp}
use Rattle.std.specs.declared.alloc.Global.{Global}
use Rattle.hub_kinds.specs.Words.{contains_text}

abbrev pub has : BTreeSet (Vec ℕ Global) → (text : List ℕ) → Bool
has known text = contains_by (λ own. slice_cmp nat_cmp text own.items) known

abbrev pub Knows : BTreeSet (Vec ℕ Global) → List (List ℕ) → Type 0
Knows known texts = (text : List ℕ) → has known text ≡ contains_text texts text
