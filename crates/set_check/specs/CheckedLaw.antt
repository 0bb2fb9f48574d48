-- 999 guide, transaction set acknowledgment code (IK501): a checked set is accepted exactly where it meets its guide; and a set is
-- checked in one way.
use Rattle.std.specs.Prelude.{◌≡◌, ◌↔◌, Bool, false}
use Rattle.hub_kinds.specs.declared.set_codes.Verdict.TheVariants.{Accepted}
use Rattle.set_check.specs.Checked.{Checked, guide_in, parts_in}
use Rattle.set_check.specs.Meets.{MeetsAlone}
use Rattle.set_check.specs.Verdict.{verdict_with}

-- accepted where it meets its guide and no earlier set of its group has its ST02, and only there
abbrev pub IsAcceptedAsItMeets : Checked → (earlier : Bool) → Type 0
IsAcceptedAsItMeets c earlier =
    verdict_with (guide_in c) (parts_in c) c.faults earlier ≡ Accepted ↔ ((earlier ≡ false) × MeetsAlone (guide_in c) (parts_in c))

-- what is checked alike is found alike
abbrev pub IsOneCheck : (c d : Checked) → Type 0
IsOneCheck c d = c.text ≡ d.text → c.span ≡ d.span → c.guide ≡ d.guide → c ≡ d
