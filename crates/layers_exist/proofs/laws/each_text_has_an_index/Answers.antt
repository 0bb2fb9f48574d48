use Rattle.layers_exist.proofs.Index.{an_index}
use Rattle.layers_exist.proofs.laws.each_text_has_an_index.Goals as goal

pub returns : goal.returns
returns c = λ text. an_index c.envelope_is_there.ensures text
