-- A set with these faults has the same codes and the same verdict.
use Rattle.std.specs.Prelude.{◌≡◌, Bool, not, ◌||◌, IsTrue, List, Option, is_some, codes, bytes_eq}
use Rattle.std.specs.List.{list_all}
use Rattle.x12_bytes.specs.declared.delims.Delims.{Delims}
use Rattle.hub_kinds.specs.Words.{segment_code_text}
use Rattle.hub_kinds.specs.declared.fault.Fault.{Fault}
use Rattle.hub_kinds.specs.declared.set_codes.SetCode.{SetCode}
use Rattle.guide_tree.specs.Tree.{GuideTree}
use Rattle.set_check.specs.SetParts.{SetParts}
use Rattle.set_check.specs.SetFaults as old_faults
use Rattle.set_check.specs.Verdict as old
use Rattle.night_definition.specs.Envelopes.{Set}
use Rattle.night_definition.specs.Sets as room
use Rattle.night_equal_set.specs.Parts.{IsThatSet}

-- code 8 reports an element's fault, so it never comes without one
abbrev pub is_told : Fault → Bool
is_told f = is_some f.elem || not (bytes_eq (segment_code_text f.code) (codes "8"))

abbrev pub SetCodesAreOne : Type 0
SetCodesAreOne = (guide : Option GuideTree) (d : Delims) (set : Set) (parts : SetParts) (faults : List Fault) (earlier : Bool)
    → IsThatSet d set parts → IsTrue (list_all is_told faults)
    → room.set_codes guide d set faults earlier ≡ old_faults.set_codes_where guide parts faults earlier

abbrev pub VerdictsAreOne : Type 0
VerdictsAreOne = (guide : Option GuideTree) (faults : List Fault) (codes : List SetCode)
    → room.verdict_on guide faults codes ≡ old.verdict_on guide faults codes
