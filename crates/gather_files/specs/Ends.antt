-- X12.5, interchange: how a file ends (own).
use Rattle.std.specs.Prelude.{ℕ, ◌≡◌, ◌≢◌, ◌≤◌, ◌⊎◌, true, List, [], ◌++◌}
use Rattle.night_definition.specs.Header.{delims_of, header_at, is_head}
use Rattle.gather_files.specs.Apart.{AreReadAlone, IsComplete}
use Rattle.gather_files.specs.Unfinished.{IsOpen, MayBegin}
use Rattle.gather_files.specs.Trailer.{open_end}
use Rattle.gather_files.specs.declared.gather.End.{End}
use Rattle.gather_files.specs.declared.gather.End.TheVariants as end

-- bytes that end in an open interchange, `last`: it ends as its last segment says, and whatever comes after it, what is before it is
-- read alone
pub record EndsOpen (bytes : List ℕ) (e : End) : Type 0 where
  pub before : List ℕ
  pub last : List ℕ
  pub are : bytes ≡ before ++ last
  pub alone : (after : List ℕ) → AreReadAlone before (last ++ after)
  pub begins : is_head last 0 ≡ true
  pub is_open : IsOpen last 0
  pub is : e ≡ open_end (delims_of (header_at last 0)) last

-- bytes that end in what may begin a header, `last`, which is in no interchange
pub record EndsInHeader (bytes : List ℕ) : Type 0 where
  pub before : List ℕ
  pub last : List ℕ
  pub are : bytes ≡ before ++ last
  pub alone : (after : List ℕ) → AreReadAlone before (last ++ after)
  pub some : last ≢ []
  pub may_begin : MayBegin last 0

-- how a file ends that goes in as `closed`, with `count` bytes put after it
abbrev pub EndsSo : (file closed : List ℕ) (count : ℕ) → End → Type 0
EndsSo file closed count end.Whole = (count ≡ 0) × IsComplete closed
EndsSo file closed count end.Mended = (1 ≤ count) × IsComplete closed
EndsSo file closed count end.CutOff = EndsOpen closed end.CutOff
EndsSo file closed count (end.OtherSeparator separators) = EndsOpen closed (end.OtherSeparator separators)
EndsSo file closed count end.CutInHeader = EndsInHeader file ⊎ EndsInHeader closed
