use Rattle.std.proofs.Common.{◌≡◌, ◌+◌, ◌&&◌, drop}
use Rattle.std.specs.List.{position_from}
use Rattle.std.specs.Str.{bytes_eq}
use Rattle.setup_errors.specs.Named.{next_sender}
use Rattle.setup_errors.proofs.named.next_sender.Given as goal

abbrev pub invariant-loop-i : goal.invariant-loop-i
invariant-loop-i l =
    position_from (λ p. bytes_eq p.qualifier l.qualifier && bytes_eq p.id l.id) (l.i + 1) (drop l.i l.partners)
    ≡ next_sender l.partners l.place l.qualifier l.id
