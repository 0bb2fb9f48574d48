use Rattle.std.proofs.Common.{◌≡◌, ◌<◌, ℕ, List, length, take, refl, sym, ap, subst, ◌∙◌, arith}
use Rattle.std.specs.Prelude.{slice_get}
use Rattle.std.proofs.lemmas.List.{take_all}
use Rattle.x12_segs.specs.Words.{SegValue, element_of}
use Rattle.env_index.specs.Words.{InterchangeEntry, GroupEntry}
use Rattle.env_index.specs.declared.entry.SetEnvelope.{SetEnvelope}
use Rattle.partner_setup.specs.Setup.{route_of}
use Rattle.partner_setup.specs.Sound.{AreWithin}
use Rattle.answered_sets.specs.Judged.{PlacedValue, sets_from, standing_at}
use Rattle.mailbox.proofs.ForAbove.{same_at, there_is}
use Rattle.track_table.specs.Rows.{TrackedBy}
use Rattle.track_table.specs.Walking.{sets_text}
use Rattle.track_table.proofs.Walks.{rows_as, rows_none, set_rows_more}
use Rattle.track_table.proofs.rows.append_sets.Goals as goal

pub loop-s-init : goal.loop-s-init
loop-s-init c = record {
  count = refl;
  rows = λ g there. rows_none c.args.by.now c.args.out.now.items c.args.cursors.now;
}

pub append_set_rows-requires-clause-route : goal.append_set_rows-requires-clause-route
append_set_rows-requires-clause-route c =
    let within : c.loop-s.s < length c.group-group.result.sets = omega (arith, c.loop-s-test.true, c.set_count-s-end.ensures) in
    let set = there_is c.group-group.result.sets c.loop-s.s within in
    let placed = c.new-placed.ensures.value c.group-group.result set.0
    (ap (λ (i : InterchangeEntry). slice_get i.content.groups c.args.k) (sym c.interchange.ensures.value) ∙ c.group-group.ensures)
    set.1 in
    c.route_of-route.ensures.targets
    ∙ ap (λ (b : TrackedBy). route_of b.setup c.element.result.now) c.by.view_is
    ∙ ap (λ (code : List ℕ). route_of c.args.by.now.setup code)
    (c.element.ensures.value ∙ ap (λ (seg : SegValue). element_of seg 3) c.header-header.ensures)
    ∙ sym (ap (λ (p : PlacedValue). route_of c.args.by.now.setup (element_of p.group.header 3)) placed)

pub append_set_rows-requires-clause-within : goal.append_set_rows-requires-clause-within
append_set_rows-requires-clause-within c =
    subst (λ (n : ℕ). AreWithin n c.route_of-route.result.now)
    (ap (λ (b : TrackedBy). length b.setup.partners) c.by.view_is ∙ sym (c.loop-s.invariant.count ∙ c.requires.count))
    c.route_of-route.ensures.within

pub loop-s-preserved : goal.loop-s-preserved
loop-s-preserved c = record {
  count = c.in_ok-append_set_rows.ensures.count ∙ c.loop-s.invariant.count;
  rows = λ g there.
      let x = c.args.judged.now in
      let same : c.group-group.result ≡ g = same_at _ _ _ _ _
      (ap (λ (i : InterchangeEntry). i.content.groups) c.interchange.ensures.value) c.group-group.ensures there in
      let count : length c.group-group.result.sets ≡ length g.sets = ap (λ (h : GroupEntry). length h.sets) same in
      let within : c.loop-s.s < length g.sets = omega (arith, c.loop-s-test.true, c.set_count-s-end.ensures, count) in
      let set = there_is g.sets c.loop-s.s within in
      set_rows_more c.args.by.now c.args.head.now c.args.notes.now x g (standing_at x.standings c.args.k) c.loop-s.s set.0
      c.new-placed.result _ _ _ _ _ _ set.1 (c.new-placed.ensures.value g set.0 there set.1)
      (c.loop-s.invariant.rows g there) c.in_ok-append_set_rows.ensures.rows;
}

pub returns-clause-rows : goal.returns-clause-rows
returns-clause-rows c g there =
    let x = c.args.judged.now in
    let same : c.group-group.result ≡ g = same_at _ _ _ _ _
    (ap (λ (i : InterchangeEntry). i.content.groups) c.interchange.ensures.value) c.group-group.ensures there in
    let count : length c.group-group.result.sets ≡ length g.sets = ap (λ (h : GroupEntry). length h.sets) same in
    let all : take c.loop-s.s g.sets ≡ g.sets =
    take_all c.loop-s.s g.sets (omega (arith, c.loop-s-test.false, c.set_count-s-end.ensures, count)) in
    let sets : List SetEnvelope → List PlacedValue = sets_from x g (standing_at x.standings c.args.k) 0 in
    rows_as c.args.by.now _ _ _ _ _ _ _ _
    (λ before. ap (λ (ss : List SetEnvelope). sets_text c.args.by.now c.args.head.now c.args.notes.now before (sets ss)) all)
    (ap sets all) (c.loop-s.invariant.rows g there)
