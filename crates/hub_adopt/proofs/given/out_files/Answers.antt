use Rattle.std.proofs.Common.{◌+◌, List, ℕ, arith, subst, sym, take}
use Rattle.std.specs.List.{AllZip}
use Rattle.hub_folder.proofs.ForAbove.{zip_more}
use Rattle.hub_adopt.specs.Given.{IsOutFile}
use Rattle.hub_adopt.proofs.given.out_files.Goals as goal

pub loop-i-preserved : goal.loop-i-preserved
loop-i-preserved g c =
    let folder = c.args.folder.now in
    let names : List (List ℕ) = c.args.names.now in
    subst (AllZip (IsOutFile folder) (take (c.loop-i.i + 1) names)) (sym c.in_ok-push.ensures)
    (zip_more (IsOutFile folder) names c.loop-i.files.items c.loop-i.i c.index-names-i.result c.in_ok-out_file.field-0 (omega (arith))
    c.index-names-i.is c.loop-i.invariant
    (subst (λ (name : List ℕ). IsOutFile folder name c.in_ok-out_file.field-0) c.as_slice.ensures c.in_ok-out_file.ensures))
