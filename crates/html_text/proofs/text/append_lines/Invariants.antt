use Rattle.std.proofs.Common.{◌≡◌, ◌++◌, take}
use Rattle.html_text.specs.Html.{html_bytes}
use Rattle.html_text.proofs.text.append_lines.Given as goal

abbrev pub invariant-loop-byte : goal.invariant-loop-byte
invariant-loop-byte l = l.out.items ≡ l.initial.out.items ++ html_bytes (take l.byte-index l.lines)
