-- Private. What is counted has bytes of its own in the report, so that no count is too great for its place.
use Rattle.std.specs.Prelude.{ℕ, ◌+◌, ◌*◌, ◌^◌, ◌≤◌, ◌<◌}
use Rattle.night_report.specs.declared.totals.Totals.{Totals}

-- while the report grew from one length to another
pub record HasRoom (t : Totals) (before behind : ℕ) : Type 0 where
  pub groups : before + t.groups ≤ behind
  pub sets : before * 2 ^ 64 + t.sets ≤ behind * 2 ^ 64
  pub accepted : before * 2 ^ 64 + t.accepted ≤ behind * 2 ^ 64
  pub held : before + t.held ≤ behind

-- of this many interchanges
abbrev pub IsOfInterchanges : Totals → ℕ → Type 0
IsOfInterchanges t n = (t.interchanges ≤ n) × (t.refused ≤ n)

-- both can be counted together
pub record FitsWith (a b : Totals) : Type 0 where
  pub interchanges : a.interchanges + b.interchanges < 2 ^ 128
  pub refused : a.refused + b.refused < 2 ^ 128
  pub groups : a.groups + b.groups < 2 ^ 128
  pub sets : a.sets + b.sets < 2 ^ 128
  pub accepted : a.accepted + b.accepted < 2 ^ 128
  pub held : a.held + b.held < 2 ^ 128
