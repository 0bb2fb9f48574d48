-- What gathering says by the definition of a night is what the layers say.
use Rattle.std.specs.Prelude.{◌≡◌, ◌↔◌, ℕ, ◌≤◌, true, Option, None, List, ◌++◌, length}
use Rattle.std.specs.List.{All, flat_map}
use Rattle.night_definition.specs.Header.{is_head}
use Rattle.night_definition.specs.Interchanges.{text_of}
use Rattle.whole_interchanges.specs.Batches.{whole_end}
use Rattle.whole_interchanges.specs.Begun.{may_begin}
use Rattle.gather_files.specs.Gathered.{GoesUpTo, HoldsInterchanges, KeepsToItself}
use Rattle.gather_files.specs.Gathered as then
use Rattle.gather_files.specs.Apart.{AreReadAlone, MayComeAfter, StandsAlone, text_of_files}
use Rattle.gather_files.specs.Unfinished.{IsOpen, LacksNothing, MayBegin}
use Rattle.gather_files.specs.Gathering.{GoesIn, GoesInByLayers}
use Rattle.gather_files.specs.declared.gather.Taken.{Taken}

-- a file stands alone exactly if by the layers it keeps to itself
abbrev pub AloneIsOne : Type 0
AloneIsOne = (file : List ℕ) → StandsAlone file ↔ KeepsToItself file

-- a file that stands alone has `n` interchanges exactly if the layers count `n`
abbrev pub CountIsOne : Type 0
CountIsOne = (file : List ℕ) (n : ℕ) → (StandsAlone file × (length (text_of file).interchanges ≡ n)) ↔ HoldsInterchanges file n

-- `before` is read alone, whatever comes after `last`, exactly if by the layers no interchange is open between the two
abbrev pub CompleteIsOne : Type 0
CompleteIsOne = (before last : List ℕ)
    → ((after : List ℕ) → AreReadAlone before (last ++ after)) ↔ GoesUpTo (before ++ last) (length before)

-- more bytes can complete a header at an offset exactly if by the layers one may begin there
abbrev pub BegunIsOne : Type 0
BegunIsOne = (text : List ℕ) (offset : ℕ) → offset ≤ length text → MayBegin text offset ↔ (may_begin text offset ≡ true)

-- an interchange is open exactly if the layers don't know its end
abbrev pub OpenIsOne : Type 0
OpenIsOne = (text : List ℕ) (offset : ℕ) → is_head text offset ≡ true → IsOpen text offset ↔ (whole_end text offset ≡ None)

-- a file lacks nothing exactly if by the layers it stands apart
abbrev pub LackIsOne : Type 0
LackIsOne = (file : List ℕ) → LacksNothing file ↔ then.StandsApart file

-- files that stand alone and begin with a header are read each alone, in a row
abbrev pub FilesAreRead : Type 0
FilesAreRead = (files : List (List ℕ)) → All StandsAlone files → All MayComeAfter files
    → text_of (flat_map (λ (file : List ℕ). file) files) ≡ text_of_files files

-- a file goes in by the one exactly if it goes in by the other
abbrev pub GoesInIsOne : Type 0
GoesInIsOne = (told : Option (List ℕ)) (closed : List ℕ) (taken : Taken) → GoesIn told closed taken ↔ GoesInByLayers told closed taken
