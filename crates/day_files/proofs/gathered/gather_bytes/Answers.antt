use Rattle.day_files.proofs.Gathering.{read_by}
use Rattle.day_files.proofs.gathered.gather_bytes.Goals as goal

pub returns-in-Ok-clause-read : goal.returns-in-Ok-clause-read
returns-in-Ok-clause-read c =
    read_by _ c.new-closed.result.items c.args.bytes.now c.gather_file.new.out.items c.in-Ok.gathered c.new-reader.ensures.remaining
    c.new-closed.ensures.items c.in-Ok.ensures.gathered
