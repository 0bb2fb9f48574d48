-- X12.5, interchange: how a file ends, by the words of the layers (own). `Ends` says the same by the definition of a night.
use Rattle.std.specs.Prelude.{ℕ, ◌≡◌, ◌<◌, ◌≤◌, ◌⊎◌, true, List, length, drop, None}
use Rattle.x12_bytes.specs.Header.{header_at, header_delims}
use Rattle.x12_bytes.specs.HeaderTest.{is_head}
use Rattle.whole_interchanges.specs.Batches.{whole_end}
use Rattle.whole_interchanges.specs.Begun.{may_begin}
use Rattle.gather_files.specs.Gathered.{GoesUpTo}
use Rattle.gather_files.specs.Trailer.{open_end}
use Rattle.gather_files.specs.declared.gather.End.{End}
use Rattle.gather_files.specs.declared.gather.End.TheVariants as end

-- no interchange is open before this offset, one begins there, and where it ends isn't known by all that there is: so it ends as its last
-- segment says
pub record EndsOpenByLayers (bytes : List ℕ) (e : End) : Type 0 where
  pub at : ℕ
  pub passes : GoesUpTo bytes at
  pub begins : is_head bytes at ≡ true
  pub unended : whole_end bytes at ≡ None
  pub is : e ≡ open_end (header_delims (header_at bytes at)) (drop at bytes)

-- no interchange is open at this offset, and the bytes from there on may begin a header
pub record EndsInHeaderByLayers (bytes : List ℕ) : Type 0 where
  pub at : ℕ
  pub passes : GoesUpTo bytes at
  pub within : at < length bytes
  pub begun : may_begin bytes at ≡ true

-- how a file ends that goes in so, with this many bytes put after it
abbrev pub EndsByLayers : (file closed : List ℕ) (count : ℕ) → End → Type 0
EndsByLayers file closed count end.Whole = (count ≡ 0) × GoesUpTo closed (length closed)
EndsByLayers file closed count end.Mended = (1 ≤ count) × GoesUpTo closed (length closed)
EndsByLayers file closed count end.CutOff = EndsOpenByLayers closed end.CutOff
EndsByLayers file closed count (end.OtherSeparator separators) = EndsOpenByLayers closed (end.OtherSeparator separators)
EndsByLayers file closed count end.CutInHeader = EndsInHeaderByLayers file ⊎ EndsInHeaderByLayers closed
