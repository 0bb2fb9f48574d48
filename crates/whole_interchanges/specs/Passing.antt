-- X12.5, interchange: what is passed over while its end is looked for. Private.
use Rattle.std.specs.Prelude.{ℕ, List, codes}
use Rattle.memchr.specs.Find.{Nowhere, OccursAt}
use Rattle.whole_interchanges.specs.declared.passing.Searched.{Searched}
use Rattle.whole_interchanges.specs.declared.passing.Stretch.{Stretch}

-- these letters begin nowhere in a stretch
abbrev pub IsFree : List ℕ → List ℕ → Stretch → Type 0
IsFree read letters s = Nowhere (OccursAt read letters) s.from s.to

pub record AreSearched (read : List ℕ) (s : Searched) : Type 0 where
  pub header : IsFree read (codes "ISA") s.header
  pub trailer : IsFree read (codes "IEA") s.trailer
