use Rattle.std.proofs.Common.{◌++◌}
use Rattle.std.proofs.lemmas.Result.{on_ok_weaker}
use Rattle.file_names.specs.Shown.{shown}
use Rattle.system_io.proofs.ForAbove.{writes_on}
use Rattle.hub_folder.proofs.failure.print_path.Goals as goal

pub returns : goal.returns
returns g c =
    on_ok_weaker c.print_text.result
    (writes_on (g.E.Write.contents c.args.err.now) (g.E.Write.contents c.print_shown.new.out) (g.E.Write.contents c.print_text.new.out)
    (shown c.args.path.now) c.args.rest.now c.in_ok-print_shown.ensures)
    c.print_text.ensures
