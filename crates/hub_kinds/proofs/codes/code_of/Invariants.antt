use Rattle.std.proofs.Common.{◌≡◌, drop}
use Rattle.std.specs.List.{find}
use Rattle.std.specs.Str.{bytes_eq}
use Rattle.hub_kinds.proofs.codes.code_of.Given as goal

-- the first code with this text is the first of those that are left
abbrev pub invariant-loop-code : goal.invariant-loop-code
invariant-loop-code g l =
    find (λ other. bytes_eq (g.C.Code.text other) l.text) l.code-items
    ≡ find (λ other. bytes_eq (g.C.Code.text other) l.text) (drop l.code-index l.code-items)
