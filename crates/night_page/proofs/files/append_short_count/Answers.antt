use Rattle.std.proofs.Common.{ℕ, List, sym}
use Rattle.std.specs.Borrow.{Bor}
use Rattle.night_page.specs.Files.{is_short}
use Rattle.night_page.proofs.Growing.{counted}
use Rattle.night_page.proofs.files.append_short_count.Goals as goal

pub returns : goal.returns
returns c =
    rw (sym (counted is_short (λ (l : Bor (List ℕ)). l.now) c.args.lines.now), sym c.short_count.ensures) c.append_number.ensures
