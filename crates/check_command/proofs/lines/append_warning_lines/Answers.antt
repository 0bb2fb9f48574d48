use Rattle.std.proofs.Common.{◌∙◌, ◌++◌, ℕ, List, ap, arith}
use Rattle.check_command.specs.Lines.{warning_line}
use Rattle.check_command.proofs.WarningLines.{more_lines}
use Rattle.check_command.proofs.lines.append_warning_lines.Goals as goal

pub loop-i-preserved : goal.loop-i-preserved
loop-i-preserved c =
    more_lines c.args.path.now c.args.warnings.now c.loop-i.i c.index-warnings-i.result c.loop-i.out.items
    c.append_warning_line.new.out.items (omega arith) c.index-warnings-i.is
    (c.in_ok-append_warning_line.ensures
    ∙ ap (λ (w : List ℕ). c.loop-i.out.items ++ warning_line c.args.path.now w) c.as_slice.ensures)
    ∙ c.loop-i.invariant
