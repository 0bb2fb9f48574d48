-- X12.5, interchange: the next header in what is read of a text. Private.
use Rattle.std.specs.Prelude.{◌≡◌, ℕ, ◌≤◌, List, [], false}
use Rattle.x12_bytes.specs.HeaderTest.{is_head}
use Rattle.env_index.specs.Words.{IsNextHead}
use Rattle.whole_interchanges.specs.Batches.{WholeUpTo}
use Rattle.whole_interchanges.specs.Open.{IsAsFar}
use Rattle.whole_interchanges.specs.declared.seeking.Sought.{Sought}
use Rattle.whole_interchanges.specs.declared.seeking.Sought.TheVariants.{Header, Wait}

-- none before it, whatever follows, and none is read from it on, where all is read or one may begin
pub record NoneRead (read : List ℕ) (from at : ℕ) : Type 0 where
  pub gap : WholeUpTo read from at []
  pub none : (q : ℕ) → at ≤ q → is_head read q ≡ false
  pub as_far : IsAsFar read at

abbrev pub Seeks : List ℕ → ℕ → Sought → Type 0
Seeks read from (Header start) = IsNextHead read from start
Seeks read from (Wait at) = NoneRead read from at
