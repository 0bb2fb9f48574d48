use Rattle.std.proofs.Common.{◌≡◌, ◌++◌, [], drop, map}
use Rattle.night_marks.specs.Links.{broken_links}
use Rattle.night_marks.proofs.link.broken_links.Given as goal

abbrev pub invariant-loop-i : goal.invariant-loop-i
invariant-loop-i l =
    l.found.items ++ broken_links l.before (map (λ n. n.now) (drop l.i l.nights)) ≡ broken_links [] (map (λ n. n.now) l.nights)
