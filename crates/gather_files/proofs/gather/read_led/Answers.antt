use Rattle.gather_files.proofs.Leading.{led_on}
use Rattle.gather_files.proofs.gather.read_led.Goals as goal

pub returns-clause-led : goal.returns-clause-led
returns-clause-led g c first is =
    led_on first (g.S.Source.remaining c.args.file.now) (g.S.Source.remaining c.fill.new.source) c.args.held.now c.fill.new.self
    c.skip_blanks.new.held c.in_ok-full.ensures.read.0 c.in_ok-full.ensures.read.1 c.skip_blanks.ensures.bytes
    c.skip_blanks.ensures.total is
