use Rattle.std.proofs.Common.{◌≡◌, ◌++◌, map, take}
use Rattle.x12_write.specs.Segment.{elements_text}
use Rattle.x12_write.proofs.segment.append_codes.Given as goal

abbrev pub invariant-loop-code : goal.invariant-loop-code
invariant-loop-code g l = l.out.items ≡ l.initial.out.items ++ elements_text l.separator (map g.C.Code.text (take l.code-index l.codes))
