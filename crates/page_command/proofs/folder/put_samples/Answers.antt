use Rattle.std.proofs.Common.{ℕ, List, [], ◌∷◌, codes, length, subst}
use Rattle.std.proofs.lemmas.Result.{on_ok_weaker}
use Rattle.guide_tree.specs.Words.{guide_of}
use Rattle.guide_tree.specs.declared.rows.GuideRows.{GuideRows}
use Rattle.guide_samples.specs.declared.rule.Rule.{Rule}
use Rattle.system_io.specs.Outbox.{AddsFiles}
use Rattle.page_command.specs.Folder.{AddsBroken}
use Rattle.page_command.proofs.Putting.{all_samples, file_made}
use Rattle.page_command.proofs.folder.put_samples.Goals as goal

pub returns-clause-samples : goal.returns-clause-samples
returns-clause-samples g c =
    let rules : List Rule = c.in_ok-rules.rules.rules in
    let was = g.B.Outbox.contents c.args.folder.now in
    let one = g.B.Outbox.contents c.put.new.folder in
    let two = g.B.Outbox.contents c.put-2.new.folder in
    let three = g.B.Outbox.contents c.put_rules.new.folder in
    let four = g.B.Outbox.contents c.put-3.new.folder in
    let list : List ℕ = c.put_rules.new.list.items in
    let second =
    subst (λ (text : List ℕ). AddsFiles one two (file_made (codes "smallest.x12") text ∷ [])) c.as_slice.ensures
    c.in_ok-put-2.ensures.file in
    let by_guide =
    subst (λ (r : GuideRows). AddsBroken (guide_of r) rules 0 (length rules) two three c.in_ok-list.list.items list)
    c.in_ok-rules.ensures.guide c.in_ok-put_rules.ensures.samples in
    let broken =
    subst (λ (l : List ℕ). AddsBroken (guide_of c.args.guide.now) rules 0 (length rules) two three l list) c.in_ok-list.ensures by_guide in
    on_ok_weaker c.put-3.result (λ last. all_samples (guide_of c.args.guide.now) c.args.complete.now c.in_ok-small.small rules was one two
    three four list c.in_ok-small.ensures c.in_ok-put.ensures.file second broken
    (subst (λ (text : List ℕ). AddsFiles three four (file_made (codes "index.csv") text ∷ [])) c.as_slice-2.ensures.value last))
    c.put-3.ensures.file
