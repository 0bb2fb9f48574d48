use Rattle.std.proofs.Common.{◌≡◌, drop}
use Rattle.std.specs.List.{list_all}
use Rattle.guide_widening.specs.Rules.{is_code_asked}
use Rattle.guide_widening.proofs.dependencies.is_kept.Given as goal

abbrev pub invariant-loop-i : goal.invariant-loop-i
invariant-loop-i l =
    list_all (is_code_asked l.depends l.depend) (drop l.i l.depend.codes) ≡ list_all (is_code_asked l.depends l.depend) l.depend.codes
