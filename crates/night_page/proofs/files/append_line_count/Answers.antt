use Rattle.std.proofs.Common.{ℕ, List}
use Rattle.std.specs.Borrow.{Bor}
use Rattle.std.proofs.lemmas.List.{length-map}
use Rattle.night_page.proofs.files.append_line_count.Goals as goal

pub returns : goal.returns
returns c = rw (length-map c.args.lines.now (λ (l : Bor (List ℕ)). l.now)) c.append_number.ensures
