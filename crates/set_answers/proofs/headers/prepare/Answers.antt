use Rattle.std.proofs.Common.{◌<◌, length, arith}
use Rattle.set_answers.proofs.Prepared.{header-more, header-to, put-there}
use Rattle.set_answers.proofs.headers.prepare.Goals as goal

pub returns-clause-headers : goal.returns-clause-headers
returns-clause-headers c =
    let setup = c.args.setup.now in
    let within : c.args.place < length c.args.headers.now = omega (arith, c.requires.within, c.requires.headers.count) in
    header-more setup c.args.at.now c.args.headers.now c.args.place c.in_ok-header.header within c.requires.headers
    (header-to setup c.args.at.now c.args.place c.envelope_to.result c.in_ok-header.header c.envelope_to.ensures.envelope
    c.in_ok-header.ensures)

pub returns-clause-there : goal.returns-clause-there
returns-clause-there c =
    let within : c.args.place < length c.args.headers.now = omega (arith, c.requires.within, c.requires.headers.count) in
    (c.in_ok-header.header, put-there c.args.headers.now c.args.place c.in_ok-header.header within)
