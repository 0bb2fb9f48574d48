-- The program's failures (own): the line that each prints; what it says, and the status, are those of nighthub, but for a mistake of the
-- arguments, which is named, and for a file that is there already.
use Rattle.std.specs.Prelude.{ℕ, List, ◌++◌, codes}
use Rattle.stream_read.specs.declared.held.StreamFault.{StreamFault}
use Rattle.stream_read.specs.declared.held.StreamFault.TheVariants as stream
use Rattle.night_command.specs.Failure as night
use Rattle.night_command.specs.declared.failure.Failure.{Failure}
use Rattle.night_command.specs.declared.failure.Failure.TheVariants as failure
use Rattle.track_command.specs.declared.failure.TrackFailure.{TrackFailure}
use Rattle.track_command.specs.declared.failure.TrackFailure.TheVariants.{Night, There, Usage}

-- a path, and that something is there
abbrev pub there_words : List ℕ
there_words = codes " is there already\n"

abbrev pub there_text : (path : List ℕ) → List ℕ
there_text path = path ++ there_words

-- a text, and the end of a line
abbrev pub line_text : (text : List ℕ) → List ℕ
line_text text = text ++ codes "\n"

-- the line on standard error: what it begins with, and the rest
abbrev pub lead_of : TrackFailure → List ℕ
lead_of (Night f) = codes "nighthub_track: "
lead_of (Usage mistake) = codes "nighthub_track: usage: "
lead_of (There path) = codes "nighthub_track: output "

abbrev pub rest_of : TrackFailure → List ℕ
rest_of (Night f) = night.cause_of f
rest_of (Usage mistake) = line_text mistake
rest_of (There path) = there_text path

abbrev pub line_of : TrackFailure → List ℕ
line_of f = lead_of f ++ rest_of f

abbrev pub status_of : TrackFailure → ℕ
status_of (Night f) = night.status_of f
status_of (Usage mistake) = 2
status_of (There path) = 5

-- what a stream that isn't read on fails by
abbrev pub stream_failure : StreamFault → Failure
stream_failure stream.InputTooLong = failure.InputTooLong
stream_failure stream.NoMemory = failure.Memory
stream_failure stream.Read = failure.Input

-- what reading the arguments may fail by
abbrev pub IsOfWords : TrackFailure → Type 0
IsOfWords (Night failure.Memory) = Unit {0}
IsOfWords (Night _) = ⊥
IsOfWords (Usage mistake) = Unit {0}
IsOfWords (There path) = ⊥

-- what a track may fail by once the setup is made
abbrev pub IsOfTrack : Failure → Type 0
IsOfTrack failure.Input = Unit {0}
IsOfTrack failure.InputTooLong = Unit {0}
IsOfTrack (failure.Output name) = Unit {0}
IsOfTrack failure.Memory = Unit {0}
IsOfTrack _ = ⊥

-- what a place that a file can't go to fails by
abbrev pub IsOfPlace : TrackFailure → Type 0
IsOfPlace (Night (failure.Output name)) = Unit {0}
IsOfPlace (Night failure.Memory) = Unit {0}
IsOfPlace (Night _) = ⊥
IsOfPlace (Usage mistake) = ⊥
IsOfPlace (There path) = Unit {0}
