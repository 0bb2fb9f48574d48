use Rattle.std.proofs.Common.{get_or, arith}
use Rattle.std.proofs.lemmas.Bool.{eq-eqb, ne_eqb}
use Rattle.whole_interchanges.proofs.Looks.{lead_found, lead_stops, on_empty, waits_blank}
use Rattle.whole_interchanges.proofs.following.look_at.Goals as goal

pub returns-then-lead-read : goal.returns-then-lead-read
returns-then-lead-read c =
    let o = lead_found c.args.read.now c.args.delims.terminator c.args.part.at c.args.part.lead c.args.part.seen c.lead_from-lead.result
    c.requires c.lead_from-lead.ensures.value in
    waits_blank c.args.read.now c.args.delims c.args.part.at c.lead_from-lead.result o c.if-lead-read.true

pub returns-then-read-lead : goal.returns-then-read-lead
returns-then-read-lead c =
    let o = lead_found c.args.read.now c.args.delims.terminator c.args.part.at c.args.part.lead c.args.part.seen c.lead_from-lead.result
    c.requires c.lead_from-lead.ensures.value in
    on_empty c.args.read.now c.args.delims c.args.part.at c.lead_from-lead.result o
    (omega (arith, c.lead_from-lead.ensures.within, c.if-lead-read.false))
    (eq-eqb (get_or c.args.read.now c.lead_from-lead.result 0) c.args.delims.terminator c.if-read-lead.true)

pub step_at-requires-clause-lead : goal.step_at-requires-clause-lead
step_at-requires-clause-lead c =
    lead_found c.args.read.now c.args.delims.terminator c.args.part.at c.args.part.lead c.args.part.seen c.lead_from-lead.result
    c.requires c.lead_from-lead.ensures.value

pub step_at-requires-clause-other : goal.step_at-requires-clause-other
step_at-requires-clause-other c =
    lead_stops c.args.read.now c.args.delims.terminator c.args.part.lead c.lead_from-lead.result
    (omega (arith, c.requires.later, c.requires.within)) c.lead_from-lead.ensures.value
    (omega (arith, c.lead_from-lead.ensures.within, c.if-lead-read.false))
    (ne_eqb (get_or c.args.read.now c.lead_from-lead.result 0) c.args.delims.terminator c.if-read-lead.false)
