use Rattle.night_stream.proofs.Filing.{filed_moved}
use Rattle.night_stream.proofs.answer_laws.acknowledgments_go_on.Goals as goal

pub returns : goal.returns
returns c = λ setup at by done xs files are. filed_moved by setup at done xs files are
