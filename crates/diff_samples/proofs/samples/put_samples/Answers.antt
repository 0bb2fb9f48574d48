use Rattle.std.proofs.Common.{◌∙◌, List, ℕ, [], ◌∷◌, ap, codes, refl, subst}
use Rattle.std.proofs.lemmas.Result.{on_ok_weaker}
use Rattle.guide_tree.specs.Words.{guide_of, nodes_view}
use Rattle.guide_tree.specs.declared.node.Node.{Node}
use Rattle.guide_tree.specs.declared.rows.GuideRows.{GuideRows}
use Rattle.system_io.specs.Outbox.{AddsFiles}
use Rattle.diff_lines.specs.Paths.{paths_of}
use Rattle.diff_samples.proofs.Putting.{all_samples, file_made}
use Rattle.diff_samples.proofs.samples.put_samples.Goals as goal

pub returns : goal.returns
returns g c =
    let was = g.B.Outbox.contents c.args.folder.now in
    let mid = g.B.Outbox.contents c.put_all.new.folder in
    let is = g.B.Outbox.contents c.put.new.folder in
    let list : List ℕ = c.put_all.new.list.items in
    on_ok_weaker c.put.result (λ last. all_samples _ (guide_of c.args.old.now) (guide_of c.args.new.now) was mid is
    c.in_ok-list.list.items list refl refl (c.as_slice.ensures.value ∙ c.in_ok-found.ensures.found)
    (c.as_slice-2.ensures.value ∙ c.in_ok-before.ensures ∙ ap (λ (ns : List Node). paths_of (nodes_view ns)) c.deref.ensures.value
    ∙ ap (λ (r : GuideRows). paths_of (guide_of r).nodes) c.rows.ensures.same)
    (c.as_slice-3.ensures.value ∙ c.in_ok-after.ensures ∙ ap (λ (ns : List Node). paths_of (nodes_view ns)) c.deref-2.ensures.value
    ∙ ap (λ (r : GuideRows). paths_of (guide_of r).nodes) c.rows-2.ensures.same)
    c.in_ok-list.ensures c.in_ok-put_all.ensures.samples
    (subst (λ (text : List ℕ). AddsFiles mid is (file_made (codes "index.csv") text ∷ [])) c.as_slice-4.ensures.value last))
    c.put.ensures.file
