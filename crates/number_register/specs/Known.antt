-- Own: what is kept beside keys. Private.
use Rattle.std.specs.Prelude.{◌≡◌, ℕ, List, Option, Some, None}
use Rattle.std.specs.BTreeMap.{BTreeMap, get}
use Rattle.std.specs.declared.cmp.Ordering.{Ordering}
use Rattle.number_register.specs.First.{AreRising, first_of}

-- nothing while keys rise with their positions; then the first position of each key
abbrev pub KnowsFirst : {K : Type 0} → (K → K → Ordering) → Option (BTreeMap K ℕ) → List (Option K) → Type 0
KnowsFirst {K} cmp None keys = AreRising cmp keys
KnowsFirst {K} cmp (Some least) keys = (q : K) → get cmp least q ≡ first_of cmp keys q
