-- X12.5, interchange control trailer (IEA): how an interchange ends that has no end (own).
use Rattle.std.specs.Prelude.{ℕ, Bool, not, ◌&&◌, ◌||◌, ◌==◌, ◌-◌, nat_le, List, length, take, drop, slice_index, codes, if◌then◌else◌}
use Rattle.std.specs.List.{prefix_len, suffix_len}
use Rattle.x12_bytes.specs.declared.delims.Delims.{Delims}
use Rattle.night_definition.specs.Header.{may_separate}
use Rattle.night_definition.specs.Segments.{is_line_end}
use Rattle.gather_files.specs.Causes.{begins, is_other}
use Rattle.gather_files.specs.declared.gather.End.{End}
use Rattle.gather_files.specs.declared.gather.End.TheVariants as end

-- CR, LF, or the terminator
abbrev pub ends_segment : (terminator : ℕ) → ℕ → Bool
ends_segment terminator b = is_line_end b || b == terminator

-- without the terminators, CR and LF at its end
abbrev pub unended : (terminator : ℕ) → List ℕ → List ℕ
unended terminator bytes = take (length bytes - suffix_len (ends_segment terminator) bytes) bytes

-- what comes after the last terminator; all, if there is none
abbrev pub after_terminator : (terminator : ℕ) → List ℕ → List ℕ
after_terminator terminator bytes = drop (length bytes - suffix_len (is_other terminator) bytes) bytes

-- without the CR and LF at its front
abbrev pub without_line_ends : List ℕ → List ℕ
without_line_ends bytes = drop (prefix_len is_line_end bytes) bytes

-- the last segment of an interchange, without the CR and LF before it
abbrev pub last_segment : (terminator : ℕ) → List ℕ → List ℕ
last_segment terminator interchange = without_line_ends (after_terminator terminator (unended terminator interchange))

-- an IEA, after which another byte than the separator comes, which may separate
abbrev pub is_trailer_by_another : (separator : ℕ) → List ℕ → Bool
is_trailer_by_another separator segment =
    nat_le 4 (length segment)
    && (begins (codes "IEA") segment && (not (slice_index segment 3 == separator) && may_separate (slice_index segment 3)))

-- by its last segment
abbrev pub end_by : (separator : ℕ) → List ℕ → End
end_by separator segment =
    if is_trailer_by_another separator segment then
    end.OtherSeparator (record { named = separator; written = slice_index segment 3 })
    else end.CutOff

-- an interchange of these delimiters that has no end: with an IEA that is written with another separator, or else cut off
abbrev pub open_end : Delims → List ℕ → End
open_end delims interchange = end_by delims.element (last_segment delims.terminator interchange)
