use Rattle.std.proofs.Common.{ℕ, List, subst}
use Rattle.night_stream.proofs.Steps.{can_close, can_go_on, read_all}
use Rattle.night_stream.specs.Carried.{HasWorked}
use Rattle.night_stream.proofs.stream.finish.Goals as goal

pub add_batch-requires-clause-room : goal.add_batch-requires-clause-room
add_batch-requires-clause-room g c κs within =
    can_go_on c.args.setup.now c.args.at.now c.requires.read.0 c.requires.read.1 c.args.held c.args.reading c.requires.read.2

pub close_by-requires-clause-files : goal.close_by-requires-clause-files
close_by-requires-clause-files g c κs within =
    (can_close c.args.setup.now c.args.at.now c.requires.read.0 c.requires.read.1 c.args.held c.args.reading c.in_ok-all.all
    c.requires.read.2 (subst (λ (l : List ℕ). HasWorked l c.args.setup.now c.args.at.now c.args.reading.base c.args.reading.carried
    c.in_ok-all.all) c.bytes.ensures c.in_ok-all.ensures.worked)).0

pub close_by-requires-clause-boxes : goal.close_by-requires-clause-boxes
close_by-requires-clause-boxes g c κs within =
    (can_close c.args.setup.now c.args.at.now c.requires.read.0 c.requires.read.1 c.args.held c.args.reading c.in_ok-all.all
    c.requires.read.2 (subst (λ (l : List ℕ). HasWorked l c.args.setup.now c.args.at.now c.args.reading.base c.args.reading.carried
    c.in_ok-all.all) c.bytes.ensures c.in_ok-all.ensures.worked)).1

pub returns-clause-night : goal.returns-clause-night
returns-clause-night g c first now is end =
    read_all c.args.setup.now c.args.at.now first now c.args.held c.args.reading c.in_ok-all.all c.in_ok-night.night c.requires.few is
    end (subst (λ (l : List ℕ). HasWorked l c.args.setup.now c.args.at.now c.args.reading.base c.args.reading.carried c.in_ok-all.all)
    c.bytes.ensures c.in_ok-all.ensures.worked) c.in_ok-night.ensures
