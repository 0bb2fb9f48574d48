use Rattle.std.proofs.Common.{◌≡◌, ◌∙◌, ◌&&◌, ◌+◌, ◌-◌, Bool, ℕ, List, ap, arith, drop, length, map, refl, sym, take}
use Rattle.std.specs.Borrow.{Bor}
use Rattle.std.proofs.lemmas.List.{at_drop_all, length-drop}
use Rattle.csv.specs.declared.record.ByteRecord.{ByteRecord}
use Rattle.csv.specs.Records.{fields_of}
use Rattle.x12_segs.specs.Words.{element_of}
use Rattle.env_index.specs.Summary.{GroupEntry}
use Rattle.sets_again.specs.Fits.{groups_fit, sets_fit}
use Rattle.sets_again.specs.Rows.{Row}
use Rattle.sets_again.proofs.Steps.{both_fit, group_fits}
use Rattle.sets_again.proofs.Walking.{rest_at}
use Rattle.sets_again.proofs.fits.groups_fit.Goals as goal

pub loop-i-preserved : goal.loop-i-preserved
loop-i-preserved c =
    let f : Bor ByteRecord → Row = λ r. fields_of r.now in
    let groups = c.args.interchange.now.content.groups in
    let rows = c.args.rows.now in
    let rest = drop c.loop-i.at rows in
    let here = c.parted.result.0.now in
    let after = c.parted.result.1.now in
    let n = c.set_count.result in
    let i = c.loop-i.i in
    let group = c.group-group.result in
    let one : Bool = sets_fit (element_of group.header 6) group.sets (map f here) in
    let others : Bool = groups_fit (drop (i + 1) groups) (map f after) in
    let fit : Bool = c.loop-i.fit in
    let first = c.parted.ensures.first ∙ ap (λ l. take n l) c.rest_from-rest.ensures in
    let last = c.parted.ensures.others ∙ ap (λ l. drop n l) c.rest_from-rest.ensures in
    ap (λ (b : Bool). b && groups_fit (drop (i + 1) groups) (map f (drop (length rows - length after) rows))) c.both-fit.ensures
    ∙ ap (λ l. (c.sets_fit.result && fit) && groups_fit (drop (i + 1) groups) (map f l))
    (rest_at rows rest after c.loop-i.at n refl last)
    ∙ both_fit c.sets_fit.result one fit others (groups_fit (drop i groups) (map f rest)) _ c.sets_fit.ensures
    (group_fits f groups rest here after i n group c.group-group.ensures c.set_count.ensures first last) c.loop-i.invariant
