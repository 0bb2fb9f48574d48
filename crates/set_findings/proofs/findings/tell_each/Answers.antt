use Rattle.std.proofs.Common.{arith}
use Rattle.env_index.specs.Words.{places_of}
use Rattle.set_findings.specs.Findings.{IsFindingOf}
use Rattle.set_findings.proofs.Marking.{place_of_next, told_all, told_more, told_none}
use Rattle.set_findings.proofs.findings.tell_each.Goals as goal

pub loop-i-init : goal.loop-i-init
loop-i-init c = told_none (IsFindingOf c.args.full.now.index c.args.faults.now) c.args.findings.now

pub tell_earlier-requires : goal.tell_earlier-requires
tell_earlier-requires c =
    place_of_next (IsFindingOf c.args.full.now.index c.args.faults.now) c.args.findings.now c.loop-i.findings c.loop-i.i _
    (places_of c.args.full.now.index) (omega arith) c.loop-i.invariant c.requires

pub loop-i-preserved : goal.loop-i-preserved
loop-i-preserved c =
    told_more (IsFindingOf c.args.full.now.index c.args.faults.now) c.args.findings.now c.loop-i.findings c.loop-i.i
    c.index-findings-i.result c.tell_earlier.new.finding (omega arith) c.loop-i.invariant c.tell_earlier.ensures

pub returns : goal.returns
returns c =
    told_all (IsFindingOf c.args.full.now.index c.args.faults.now) c.args.findings.now c.loop-i.findings c.loop-i.i (omega arith)
    c.loop-i.invariant
