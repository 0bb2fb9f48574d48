use Rattle.std.proofs.Common.{◌∙◌, ℕ, List, ap, not}
use Rattle.std.specs.Borrow.{Bor}
use Rattle.night_page.specs.Files.{is_short}
use Rattle.night_page.proofs.Growing.{any_mapped}
use Rattle.night_page.proofs.lines.are_whole.Goals as goal

pub returns : goal.returns
returns c = ap not (c.is_some_short.ensures ∙ any_mapped is_short (λ (l : Bor (List ℕ)). l.now) c.args.lines.now)
