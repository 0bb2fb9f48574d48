use Rattle.night_folder.specs.Nights.{IsFaultOf}
use Rattle.night_folder.proofs.Passing.{passed_on}
use Rattle.night_folder.proofs.night.entry_by.Goals as goal

pub returns-in_err-checked-clause-fault : goal.returns-in_err-checked-clause-fault
returns-in_err-checked-clause-fault c =
    passed_on c.from_residual.result c.in_err-checked.field-0.0 (IsFaultOf c.args.mark.now c.args.files.now) c.from_residual.ensures.1
    (c.in_err-checked.ensures.fault c.args.mark.now)

pub returns-in-Err-clause-fault : goal.returns-in-Err-clause-fault
returns-in-Err-clause-fault c =
    c.fault_of.ensures c.args.mark.now c.args.files.now c.papers_of-papers.result c.papers_of-papers.ensures c.in-Err.ensures.refused
