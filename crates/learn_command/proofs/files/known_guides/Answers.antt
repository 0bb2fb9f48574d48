use Rattle.std.proofs.Common.{[], ℕ, List, get_or}
use Rattle.std.specs.Borrow.{Bor}
use Rattle.std.proofs.lemmas.Option.{slice_get-get_or}
use Rattle.learn_command.proofs.Learning.{refused_at, some_refused}
use Rattle.learn_command.proofs.files.known_guides.Goals as goal

pub returns-in-Refused : goal.returns-in-Refused
returns-in-Refused g c =
    let paths = c.args.paths.now in
    let i : ℕ = c.loop-path.path-index in
    let none : Bor (List ℕ) = record { ref_ptr = (0, 0); now = [] } in
    let path : Bor (List ℕ) = get_or paths i none in
    some_refused paths i path (slice_get-get_or paths i none c.loop-path-test.true)
    (refused_at path.now c.in_ok-file.file c.in_ok-guide.field-0 c.in-Refused.text c.in_ok-file.ensures c.in-Refused.is
    c.in_ok-guide.ensures)
