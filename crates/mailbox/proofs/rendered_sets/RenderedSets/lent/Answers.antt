use Rattle.std.proofs.Common.{◌≡◌, ◌∙◌, ◌≤◌, List, ap, arith, length, rules}
use Rattle.std.proofs.lemmas.List.{take_all}
use Rattle.std.specs.List.{flat_map}
use Rattle.mailbox.specs.Rendered.{RenderedValue}
use Rattle.mailbox.proofs.Sharing.{same}
use Rattle.mailbox.proofs.rendered_sets.RenderedSets.lent.Goals as goal

pub returns : goal.returns
returns c =
    let rows : List (List RenderedValue) = c.self.inside.rows.items in
    let end : c.len-i-end.result ≡ length rows = search rules in
    let all : length rows ≤ c.loop-i.i = omega (arith, c.loop-i-test.false, c.loop-i.auto.i-end, end) in
    c.loop-i.invariant ∙ ap (flat_map same) (take_all c.loop-i.i rows all) ∙ c.self.view_is
