use Rattle.std.proofs.Common.{◌≡◌, ◌++◌, take}
use Rattle.std.specs.List.{flat_map}
use Rattle.ack_lines.specs.Lines.{set_code_line}
use Rattle.ack_lines.proofs.lines.append_each_code.Given as goal

abbrev pub invariant-loop-code : goal.invariant-loop-code
invariant-loop-code l =
    l.out.items ≡ l.initial.out.items ++ flat_map (set_code_line l.head l.verdict l.noted) (take l.code-index l.codes)
