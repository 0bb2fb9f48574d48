use Rattle.std.proofs.Common.{◌≡◌, ◌++◌, drop}
use Rattle.std.specs.List.{flat_map}
use Rattle.guide_page.specs.Named.{named_code}
use Rattle.guide_page.proofs.named.append_named_codes.Given as goal

abbrev pub invariant-loop-i : goal.invariant-loop-i
invariant-loop-i l =
    l.out.items ++ flat_map (named_code l.names l.reference) (drop l.i l.codes)
    ≡ l.initial.out.items ++ flat_map (named_code l.names l.reference) l.codes
