-- Totals that are added up (own), group by group and interchange by interchange.
use Rattle.std.specs.Prelude.{ℕ, ◌+◌, List, [], ◌∷◌, length, sum_by, if◌then◌else◌}
use Rattle.env_index.specs.Words.{GroupEntry}
use Rattle.partner_setup.specs.Setup.{SetupValue}
use Rattle.answered_sets.specs.Judged.{JudgedValue, is_fa, is_refused, standing_at}
use Rattle.answered_sets.specs.Placed.{group_at, groups_in}
use Rattle.answered_sets.specs.declared.standing.GroupStanding.{GroupStanding}
use Rattle.night_report.specs.Report.{ShownGroup, groups_shown, placed_sets_in, held_count}
use Rattle.night_report.specs.declared.totals.Totals.{Totals}

abbrev pub none : Totals
none = record { interchanges = 0; refused = 0; groups = 0; sets = 0; accepted = 0; held = 0 }

abbrev pub together : Totals → Totals → Totals
together a b = record {
  interchanges = a.interchanges + b.interchanges;
  refused = a.refused + b.refused;
  groups = a.groups + b.groups;
  sets = a.sets + b.sets;
  accepted = a.accepted + b.accepted;
  held = a.held + b.held;
}

-- group n of an interchange, counted from 0
abbrev pub shown_at : JudgedValue → ℕ → ShownGroup
shown_at x n = record { interchange = x; group = group_at (groups_in x) n; standing = standing_at x.standings n }

-- after what was counted before
abbrev pub added : {A : Type 0} → (A → Totals) → Totals → List A → Totals
added count before [] = before
added count before (a ∷ more) = added count (together before (count a)) more

-- an interchange that is refused
abbrev pub refused_one : Totals
refused_one = record { interchanges = 1; refused = 1; groups = 0; sets = 0; accepted = 0; held = 0 }

abbrev pub accepted_one : Totals
accepted_one = record { interchanges = 1; refused = 0; groups = 0; sets = 0; accepted = 0; held = 0 }

abbrev pub held_in : SetupValue → ShownGroup → ℕ
held_in setup g = sum_by (held_count setup) (placed_sets_in g)

-- a group of whose sets this many are held
abbrev pub totals_with : GroupEntry → GroupStanding → (held : ℕ) → Totals
totals_with group standing held =
    if is_fa group then record { interchanges = 0; refused = 0; groups = 0; sets = 0; accepted = 0; held = held }
    else record {
      interchanges = 0;
      refused = 0;
      groups = 1;
      sets = length group.sets;
      accepted = standing.accepted;
      held = held;
    }

abbrev pub group_totals : SetupValue → ShownGroup → Totals
group_totals setup g = totals_with g.group g.standing (held_in setup g)

abbrev pub interchange_totals : SetupValue → JudgedValue → Totals
interchange_totals setup x = if is_refused x then refused_one else added (group_totals setup) accepted_one (groups_shown x)
