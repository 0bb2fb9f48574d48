use Rattle.std.proofs.Common.{◌≡◌, drop}
use Rattle.std.specs.List.{find}
use Rattle.guide_warnings.specs.Codes.{is_doubtful}
use Rattle.guide_warnings.proofs.codes.first_doubtful.Given as goal

abbrev pub invariant-loop-i : goal.invariant-loop-i
invariant-loop-i l = find (is_doubtful l.doubt l.row) (drop l.i l.listed) ≡ find (is_doubtful l.doubt l.row) l.listed
