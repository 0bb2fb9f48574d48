use Rattle.std.proofs.Common.{◌≡◌, ℕ, Bool, List, [], ◌∷◌, ◌++◌, sym, ap, ◌∙◌, arith}
use Rattle.count_numbers.specs.declared.run.Run.{Run}
use Rattle.count_numbers.specs.Joining.{join_nil}
use Rattle.count_numbers.specs.Runs.{runs_of, together}
use Rattle.count_numbers.specs.Tally.{Entry, Acknowledged, PartnerTally, acknowledged_groups, groups_in_one, keys_of, tally_of}
use Rattle.count_numbers.specs.Tallying.{same_tally, tally_append}
use Rattle.count_numbers.proofs.tally.Tally.acknowledge.Goals as goal

-- the groups of one acknowledgment alone
one_in_row : (has_group : Bool) (n : ℕ) → together n (together (groups_in_one has_group) 0) ≡ together n (groups_in_one has_group)
one_in_row has_group n = omega arith

abbrev tally : (acknowledgments groups : ℕ) → List Run → PartnerTally
tally acknowledgments groups runs = record { acknowledgments = acknowledgments; groups = groups; runs = runs }

-- one acknowledgment more
more : (acknowledgments n groups g : ℕ) (rs : List Run) (has_group : Bool) (es : List Entry)
    → tally acknowledgments groups rs ≡ tally_of es → n ≡ together acknowledgments 1 → g ≡ together groups (groups_in_one has_group)
    → tally n g rs ≡ tally_of (es ++ Acknowledged has_group ∷ [])
more acknowledgments n groups g rs has_group es was is are =
    same_tally _ _ _ _ _ _ (is ∙ ap (λ (t : PartnerTally). together t.acknowledgments 1) was)
    (are ∙ ap (λ (t : PartnerTally). together t.groups (groups_in_one has_group)) was ∙ sym (one_in_row has_group (acknowledged_groups es)))
    (ap (λ (t : PartnerTally). t.runs) was ∙ sym (join_nil (runs_of (keys_of es))))
    ∙ sym (tally_append es (Acknowledged has_group ∷ []))

pub returns : goal.returns
returns c es was =
    more c.self.inside.acknowledgments _ c.self.inside.groups _ c.self.inside.runs.items c.args.has_group es
    (c.self.view_is ∙ was) c.together-self-inside.ensures
    (c.together-self-inside-2.ensures ∙ ap (together c.self.inside.groups) c.groups_in_one.ensures)
