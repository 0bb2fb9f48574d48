use Rattle.std.proofs.Common.{◌≡◌, take}
use Rattle.std.specs.List.{count_by}
use Rattle.night_page.specs.Files.{is_short}
use Rattle.night_page.proofs.files.short_count.Given as goal

abbrev pub invariant-loop-line : goal.invariant-loop-line
invariant-loop-line l = l.count ≡ count_by (λ line. is_short line.now) (take l.line-index l.lines)
