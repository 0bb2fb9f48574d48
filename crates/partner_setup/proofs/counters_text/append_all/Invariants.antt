use Rattle.std.proofs.Common.{◌≡◌, ◌++◌, drop}
use Rattle.partner_setup.specs.CountersText.{counters_lines}
use Rattle.partner_setup.proofs.counters_text.append_all.Given as goal

abbrev pub invariant-loop-i : goal.invariant-loop-i
invariant-loop-i l = l.out.items ++ counters_lines (drop l.i l.partners) (drop l.i l.next) ≡ l.initial.out.items
    ++ counters_lines l.partners l.next
