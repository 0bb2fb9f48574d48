use Rattle.std.specs.Prelude.{codes}
use Rattle.std.proofs.lemmas.Result.{on_ok_weaker}
use Rattle.file_names.specs.Shown.{shown_delimiter}
use Rattle.gather_command.specs.Lines.{written_words}
use Rattle.gather_command.proofs.Joined.{three_joined}
use Rattle.gather_command.proofs.lines.append_separators.Goals as goal

pub returns : goal.returns
returns c =
    on_ok_weaker c.append_written.result
    (three_joined c.args.out.now.items (codes ", will be refused: its ISA names ") (shown_delimiter c.args.separators.named)
    (written_words c.args.separators.written) c.append.new.out.items c.append_delimiter.new.out.items c.append_written.new.out.items
    c.in_ok-append.ensures c.in_ok-append_delimiter.ensures)
    c.append_written.ensures
