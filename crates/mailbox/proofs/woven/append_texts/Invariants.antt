use Rattle.std.proofs.Common.{◌≡◌, ◌++◌, map, take}
use Rattle.mailbox.specs.Rendered.{text_in}
use Rattle.mailbox.proofs.woven.append_texts.Given as goal

abbrev pub invariant-loop-i : goal.invariant-loop-i
invariant-loop-i l = l.parts.items ≡ l.initial.parts.items ++ map text_in (take l.i l.some)
