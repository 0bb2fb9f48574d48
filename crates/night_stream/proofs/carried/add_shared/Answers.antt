use Rattle.night_stream.proofs.Found.{found_asked, found_room, found_spans, found_written}
use Rattle.night_stream.proofs.carried.add_shared.Goals as goal

pub add_found-requires-clause-spans : goal.add_found-requires-clause-spans
add_found-requires-clause-spans g c =
    found_spans c.args.batch.now c.args.setup.now c.args.carried.numbers c.requires.numbers.0 c.in_ok-found.found c.in_ok-found.ensures
    c.requires.numbers.1

pub add_found-requires-clause-found : goal.add_found-requires-clause-found
add_found-requires-clause-found g c =
    found_asked c.args.batch.now c.args.setup.now c.args.carried.numbers c.requires.numbers.0 c.in_ok-found.found c.in_ok-found.ensures
    c.requires.numbers.1

pub add_found-requires-clause-room : goal.add_found-requires-clause-room
add_found-requires-clause-room g c =
    found_room c.args.setup.now c.args.at.now c.args.base c.args.carried.writing c.args.batch.now c.args.carried.numbers
    c.requires.numbers.0 c.in_ok-found.found c.requires.room c.requires.few c.in_ok-found.ensures c.requires.numbers.1

pub returns-clause-worked : goal.returns-clause-worked
returns-clause-worked g c = record {
  index = c.in_ok-found.ensures.plain;
  read = c.in_ok-found.ensures.read;
  written = λ numbers known. found_written c.args.setup.now c.args.at.now c.args.base c.args.carried.writing c.in_ok-writing.writing
      c.args.batch.now c.args.carried.numbers numbers c.in_ok-found.found c.in_ok-found.ensures known c.in_ok-writing.ensures;
  seen = c.in_ok-found.ensures.seen;
}
