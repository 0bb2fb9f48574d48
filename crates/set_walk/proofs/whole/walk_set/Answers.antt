use Rattle.std.proofs.Common.{◌≡◌, ◌∙◌, ◌∷◌, ◌++◌, [], ap, sym, subst, List, Option}
use Rattle.std.specs.Prelude.{is_some, IsTrue}
use Rattle.std.proofs.lemmas.Bool.{OnTrue_at}
use Rattle.std.proofs.lemmas.List.{append_assoc}
use Rattle.x12_segs.specs.Words.{SegValue, span_views}
use Rattle.guide_tree.specs.Words.{guide_of, IsAccepted}
use Rattle.set_walk.specs.declared.walked.WalkedSet.{WalkedSet}
use Rattle.set_walk.proofs.Keyed.{body_keyed}
use Rattle.set_walk.proofs.Lent.{plain_lent}
use Rattle.set_walk.proofs.Seeing.{has_end, has_room, walked_whole, with_order}
use Rattle.set_walk.proofs.whole.walk_set.Goals as goal

pub loop-seg-init : goal.loop-seg-init
loop-seg-init c = ([], c.nothing_seen-seen.ensures (guide_of c.args.fast.now), sym c.in_ok-segs.ensures ∙ c.in-Some.ensures.next)

pub see-requires-clause-room : goal.see-requires-clause-room
see-requires-clause-room c = c.loop-seg.invariant.1.room

pub see-requires-clause-plain : goal.see-requires-clause-plain
see-requires-clause-plain c =
    plain_lent c.separators.result c.next_segment-in-loop-seg.new.self.separators c.in-Some-next_segment.seg c.separators.ensures
    c.in-Some-next_segment.ensures.plain

pub loop-seg-preserved : goal.loop-seg-preserved
loop-seg-preserved c =
    let done = c.loop-seg.invariant.0 in
    let left = c.next_segment-in-loop-seg.new.self.left in (
      done ++ c.in-Some-next_segment.seg ∷ [],
      OnTrue_at c.if-not-branch.false c.in_ok-see.ensures.seen done c.loop-seg.invariant.1,
      c.loop-seg.invariant.2 ∙ ap (λ (l : List SegValue). c.in-Some.header ∷ (done ++ l)) c.in-Some-next_segment.ensures.next
          ∙ ap (λ (l : List SegValue). c.in-Some.header ∷ l) (sym (append_assoc done (c.in-Some-next_segment.seg ∷ []) left)),
    )

pub with_order-requires : goal.with_order-requires
with_order-requires c =
    let rows = c.args.fast.now in
    let set = c.args.set.now in
    let walked = walked_whole (guide_of rows) set.delims set.closed c.in-Some.header c.loop-seg.seen c.loop-seg.invariant.0
    c.loop-seg.segs.left (span_views c.args.text.now set) c.in_ok-close.field-0 c.in-Some-2.walked c.loop-seg.invariant.1
    c.loop-seg.invariant.2 c.in_default-next_segment.ensures.next.0 c.in_ok-close.ensures.walked c.in-Some-2.is in
    body_keyed rows (subst IsAccepted c.guide.ensures c.rows-rows.ensures.accepted) walked.body c.in-Some-2.walked.faults
    walked.faults

pub returns-clause-walked : goal.returns-clause-walked
returns-clause-walked c =
    let g = guide_of c.args.fast.now in
    let set = c.args.set.now in
    let segs = span_views c.args.text.now set in
    with_order g set.delims set.closed segs c.in-Some-2.walked c.with_order.result
    (walked_whole g set.delims set.closed c.in-Some.header c.loop-seg.seen c.loop-seg.invariant.0 c.loop-seg.segs.left segs
    c.in_ok-close.field-0 c.in-Some-2.walked c.loop-seg.invariant.1 c.loop-seg.invariant.2
    c.in_default-next_segment.ensures.next.0 c.in_ok-close.ensures.walked c.in-Some-2.is)
    c.with_order.ensures.ends c.with_order.ensures.same

pub returns-then-not-branch-clause-given : goal.returns-then-not-branch-clause-given
returns-then-not-branch-clause-given c without few =
    let set = c.args.set.now in
    let on = has_room (guide_of c.args.fast.now) c.loop-seg.seen c.in-Some-next_segment.seg c.in-Some.header c.loop-seg.invariant.0
    c.next_segment-in-loop-seg.new.self.left (span_views c.args.text.now set) c.requires.inner set.closed c.loop-seg.invariant.1
    (c.loop-seg.invariant.2
    ∙ ap (λ (l : List SegValue). c.in-Some.header ∷ (c.loop-seg.invariant.0 ++ l)) c.in-Some-next_segment.ensures.next)
    c.requires.kinds c.requires.plain few in
    sym c.if-not-branch.true ∙ c.in_ok-see.ensures.goes_on ∙ on

pub returns-in-None-clause-given : goal.returns-in-None-clause-given
returns-in-None-clause-given c without few =
    let set = c.args.set.now in
    let ends : is_some c.loop-seg.seen.trailer ≡ set.closed =
    has_end (guide_of c.args.fast.now) c.loop-seg.seen c.in-Some.header c.loop-seg.invariant.0 (span_views c.args.text.now set)
    c.requires.inner set.closed c.loop-seg.invariant.1
    (c.loop-seg.invariant.2
    ∙ ap (λ (l : List SegValue). c.in-Some.header ∷ (c.loop-seg.invariant.0 ++ l)) c.in_default-next_segment.ensures.next.0)
    c.requires.kinds c.requires.plain in
    subst (λ (o : Option WalkedSet). IsTrue (is_some o)) c.in-None.is (c.in_ok-close.ensures.given without ends)
