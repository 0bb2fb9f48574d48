use Rattle.std.proofs.Common.{◌≡◌, ◌++◌, ℕ, List, take}
use Rattle.std.specs.Io.KnownBytes.{Appends}
use Rattle.std.specs.List.{flat_map}
use Rattle.system_io.proofs.written.write_parts.Given as goal

-- what was written, with what is kept to be written, is the parts so far
abbrev pub invariant-loop-i : goal.invariant-loop-i
invariant-loop-i g l =
    (done : List ℕ) × Appends (g.F.Write.contents l.initial.file) (g.F.Write.contents l.file) done
    × (done ++ l.row.items ≡ flat_map (λ (part : List ℕ). part) (take l.i l.parts))
