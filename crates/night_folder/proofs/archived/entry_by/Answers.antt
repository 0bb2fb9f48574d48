use Rattle.night_folder.proofs.archived.entry_by.Goals as goal

pub returns-in-Err-clause-fault : goal.returns-in-Err-clause-fault
returns-in-Err-clause-fault c =
    c.fault_of.ensures c.args.mark.now c.args.files.now c.papers_of-papers.result c.papers_of-papers.ensures c.in-Err.ensures.wrong
