use Rattle.std.proofs.Common.{◌+◌, ◌<◌, [], List, ℕ, length, map, subst, sym, take}
use Rattle.std.specs.Borrow.{Bor}
use Rattle.std.specs.List.{AllZip}
use Rattle.hub_night.specs.Day.{IsFileAt}
use Rattle.hub_folder.proofs.ForAbove.{zip_mapped}
use Rattle.hub_command.proofs.reading.files_at.Goals as goal

pub loop-i-preserved : goal.loop-i-preserved
loop-i-preserved g c =
    let paths : List (Bor (List ℕ)) = c.args.paths.now in
    let path : Bor (List ℕ) → List ℕ = λ (p : Bor (List ℕ)). p.now in
    let none : Bor (List ℕ) = record { ref_ptr = (0, 0); now = [] } in
    let low : c.loop-i.i < length paths = c.loop-i-test.true in
    subst (AllZip (IsFileAt c.args.is_again) (map path (take (c.loop-i.i + 1) paths))) (sym c.in_ok-push.ensures)
    (zip_mapped path (IsFileAt c.args.is_again) paths c.loop-i.files.items c.loop-i.i none c.in_ok-file_at.field-0 low c.loop-i.invariant
    c.in_ok-file_at.ensures.file)
