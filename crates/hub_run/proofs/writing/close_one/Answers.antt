use Rattle.hub_run.proofs.OneBatch.{night_in_batch, written_in}
use Rattle.hub_run.proofs.writing.close_one.Goals as goal

pub close-requires-clause-files : goal.close-requires-clause-files
close-requires-clause-files c =
    (written_in c.args._index.now.text c.args.setup.now c.args.at.now c.args._index.now.entries c.args._index.now.outside c.args.written
    c.requires).0.files.count

pub close-requires-clause-boxes : goal.close-requires-clause-boxes
close-requires-clause-boxes c =
    (written_in c.args._index.now.text c.args.setup.now c.args.at.now c.args._index.now.entries c.args._index.now.outside c.args.written
    c.requires).0.boxes.count

pub returns : goal.returns
returns c = record {
  known = c.requires.known;
  answered = c.requires.answered;
  is = night_in_batch c.args._index.now.text c.args.setup.now c.args.at.now c.args._index.now.entries c.args._index.now.outside
      c.args.written c.in_ok-night.night c.requires c.in_ok-night.ensures;
}
