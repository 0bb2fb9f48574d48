-- 999 guide (005010X231), AK9: what is reported of acknowledgments, and in which order. A group that is rejected is rejected with all of
-- its sets, whatever their IK5 says, and comes before them; any other comes after its sets, as it is reported.
use Rattle.std.specs.Prelude.{ℕ, Bool, true, false, List, [], ◌∷◌, ◌++◌, map, codes, if◌then◌else◌}
use Rattle.std.specs.Str.{bytes_eq}
use Rattle.ack_read.specs.declared.told.GroupTold.{GroupTold}
use Rattle.ack_read.specs.declared.told.SetTold.{SetTold}
use Rattle.ack_read.specs.declared.told.Told.{Told}
use Rattle.ack_read.specs.declared.told.Told.TheVariants as told
use Rattle.ack_lines.specs.declared.reported.Reported.{Reported}
use Rattle.ack_lines.specs.declared.reported.Reported.TheVariants as reported

-- a verdict of a set or a group
abbrev pub is_rejected : (code : List ℕ) → Bool
is_rejected code = bytes_eq code (codes "R")

abbrev pub set_reported : (falls : Bool) → SetTold → Reported
set_reported falls s = reported.OfSet s falls

-- a group with its sets, whose IK5s are before its AK9
abbrev pub group_reported : GroupTold → List SetTold → List Reported
group_reported g sets =
    if is_rejected g.code then reported.OfGroup g ∷ map (set_reported true) sets
    else map (set_reported false) sets ++ reported.OfGroup g ∷ []

-- what is reported after sets whose AK9 is still to come; where none comes before the next TA1 or the end, they are reported by themselves
abbrev pub reported_behind : (sets : List SetTold) → List Told → List Reported
reported_behind sets [] = map (set_reported false) sets
reported_behind sets (told.OfInterchange t ∷ more) =
    map (set_reported false) sets ++ reported.OfInterchange t ∷ reported_behind [] more
reported_behind sets (told.OfSet s ∷ more) = reported_behind (sets ++ s ∷ []) more
reported_behind sets (told.OfGroup g ∷ more) = group_reported g sets ++ reported_behind [] more

-- what is reported with each
abbrev pub told_of : Reported → Told
told_of (reported.OfInterchange t) = told.OfInterchange t
told_of (reported.OfGroup g) = told.OfGroup g
told_of (reported.OfSet s falls) = told.OfSet s

abbrev pub reported_of : List Told → List Reported
reported_of found = reported_behind [] found
