use Rattle.std.proofs.Common.{◌++◌}
use Rattle.std.specs.Prelude.{codes}
use Rattle.std.proofs.lemmas.Result.{on_ok_weaker}
use Rattle.file_names.specs.Shown.{shown}
use Rattle.names_file.specs.Warnings.{warning_line}
use Rattle.names_file.proofs.Growing.{two}
use Rattle.names_file.proofs.warnings.append_line.Goals as goal

pub returns : goal.returns
unfolding warning_line
returns c =
    on_ok_weaker c.append-3.result (λ adds. two c.args.out.now.items c.append.new.out.items c.append-3.new.out.items
    (codes "nighthub_page: ") (shown c.args.path.now ++ (codes ": the guide has no " ++ (shown c.args.subject.now ++ codes "\n")))
    c.in_ok-append.ensures (two c.append.new.out.items c.append_shown.new.out.items c.append-3.new.out.items
    (shown c.args.path.now) (codes ": the guide has no " ++ (shown c.args.subject.now ++ codes "\n"))
    c.in_ok-append_shown.ensures (two c.append_shown.new.out.items c.append-2.new.out.items c.append-3.new.out.items
    (codes ": the guide has no ") (shown c.args.subject.now ++ codes "\n")
    c.in_ok-append-2.ensures (two c.append-2.new.out.items c.append_shown-2.new.out.items c.append-3.new.out.items
    (shown c.args.subject.now) (codes "\n") c.in_ok-append_shown-2.ensures adds))))
    c.append-3.ensures
