use Rattle.std.proofs.Common.{◌≡◌, ◌+◌, drop}
use Rattle.std.specs.List.{position_from}
use Rattle.std.specs.Str.{bytes_eq}
use Rattle.setup_errors.specs.Named.{next_named}
use Rattle.setup_errors.proofs.named.next_named.Given as goal

abbrev pub invariant-loop-i : goal.invariant-loop-i
invariant-loop-i g l =
    position_from (λ r. bytes_eq (g.T.Named.name r) l.text) (l.i + 1) (drop l.i l.rows) ≡ next_named g.T.Named.name l.rows l.place l.text
