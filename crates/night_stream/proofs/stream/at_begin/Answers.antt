use Rattle.std.proofs.Common.{refl, arith}
use Rattle.night_stream.proofs.Steps.{read_first}
use Rattle.night_stream.proofs.stream.at_begin.Goals as goal

pub returns : goal.returns
returns c at first =
    read_first c.args.setup.now at first _ c.in_ok-carried.ensures.numbers c.in_ok-carried.ensures.writing refl refl (omega arith)
