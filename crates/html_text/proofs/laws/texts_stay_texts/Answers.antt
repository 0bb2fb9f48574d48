use Rattle.html_text.proofs.Texts.{clear_bytes}
use Rattle.html_text.proofs.laws.texts_stay_texts.Goals as goal

pub returns : goal.returns
returns c text = clear_bytes text
