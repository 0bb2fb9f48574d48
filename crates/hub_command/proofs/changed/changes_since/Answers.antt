use Rattle.std.proofs.Common.{◌≡◌, ℕ, List, subst, codes, rules}
use Rattle.guide_changes.specs.Changes.{AreChanges}
use Rattle.system_io.specs.Outbox.{path_in}
use Rattle.hub_command.specs.Changed as changed
use Rattle.hub_command.proofs.changed.changes_since.Goals as goal

pub returns-clause-changes : goal.returns-clause-changes
returns-clause-changes g c =
    let text : List ℕ = c.in_ok-guide_changes.field-0.items in
    let before : c.in-Ok.path.now ≡ changed.guides_of_night c.args.hub.now c.args.night.now = search rules in
    let now : c.as_slice-2.result.now ≡ path_in c.args.hub.now (codes "guides") = search rules in
    subst (λ (path : List ℕ). AreChanges path (path_in c.args.hub.now (codes "guides")) c.args.guides.now text) before
    (subst (λ (folder : List ℕ). AreChanges c.in-Ok.path.now folder c.args.guides.now text) now c.in_ok-guide_changes.ensures)
