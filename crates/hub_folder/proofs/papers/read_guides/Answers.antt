use Rattle.std.proofs.Common.{◌+◌, ◌++◌, ◌∷◌, ◌∙◌, [], List, ℕ, arith, ap, get_or, subst, sym, take}
use Rattle.std.specs.List.{AllZip}
use Rattle.night_shelf.specs.declared.night.NightFile.{NightFile}
use Rattle.hub_folder.specs.Papers.{IsGuideAt}
use Rattle.hub_folder.proofs.Zips.{zip_more}
use Rattle.hub_folder.proofs.papers.read_guides.Goals as goal

pub loop-i-preserved : goal.loop-i-preserved
loop-i-preserved g c =
    let folder = c.args.folder.now in
    let names : List (List ℕ) = c.args.names.now in
    subst (AllZip (IsGuideAt folder) (take (c.loop-i.i + 1) names)) (sym c.in_ok-push.ensures)
    (zip_more (IsGuideAt folder) names c.loop-i.guides.items c.loop-i.i c.index-names-i.result c.in_ok-guide_at.field-0 (omega (arith))
    c.index-names-i.is c.loop-i.invariant
    (subst (λ (name : List ℕ). IsGuideAt folder name c.in_ok-guide_at.field-0) c.as_slice.ensures c.in_ok-guide_at.ensures.guide))
