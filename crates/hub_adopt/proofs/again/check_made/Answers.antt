use Rattle.std.proofs.Common.{List, subst, sym}
use Rattle.std.specs.List.Sorted.{IsPermutation}
use Rattle.night_shelf.specs.declared.night.NightFile.{NightFile}
use Rattle.hub_adopt.specs.Given.{given_in}
use Rattle.hub_adopt.proofs.Comparing.{gives_so}
use Rattle.hub_adopt.proofs.again.check_made.Goals as goal

pub returns-in-None : goal.returns-in-None
returns-in-None g c =
    let files : List NightFile = given_in c.args.made.now.night.files in
    gives_so c.args.adoption.now c.args.mark.now files c.as_slice-2.result.now
    (subst (λ (l : List NightFile). IsPermutation files l) (sym c.as_slice-2.ensures.value)
    (subst (λ (l : List NightFile). IsPermutation (given_in l) c.in_ok-given.given.items) c.as_slice.ensures c.in_ok-given.ensures))
    (c.in_ok-other_file.ensures c.in-None.is)
