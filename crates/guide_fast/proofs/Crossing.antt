-- A compiled guide may be shared between threads, in one step for the types that hold a loan of one: a `search` that goes down through
-- it runs out of steps.
use denote.Ref.{NamedLft}
use denote.Param.Send.{IsSync, sendable}
use Rattle.guide_fast.proofs.index.TextIndex.TheSendSync as index
use Rattle.guide_fast.specs.contracts.children.Children as children
use Rattle.guide_fast.specs.contracts.fast.FastGuide as fast
use Rattle.guide_fast.specs.contracts.station.Station as station
use Rattle.guide_fast.specs.contracts.strays.Strays as strays
use Rattle.guide_tree.proofs.node.Loop.TheSendSync as loop
use Rattle.guide_tree.proofs.node.Node.TheLaws.TheKnot as knot
use Rattle.guide_tree.proofs.rows.Dependency.TheSendSync as dependency
use Rattle.guide_tree.proofs.rows.GuideHead.TheSendSync as head
use Rattle.guide_tree.proofs.rows.HlRule.TheSendSync as hl
use Rattle.guide_tree.proofs.slot.Slot.TheSendSync as slot
use Rattle.std.proofs.Crossing.{crosses}
use Rattle.std.proofs.vec.Vec.TheSendSync as vec

children_sync : (κ : NamedLft) → IsSync (children.the_field κ).row
children_sync κ =
    search (
      index.the_field_sync,
      loop.the_field_sync,
      slot.the_field_sync,
      vec.the_sync,
      crosses,
      knot.crosses,
      sendable,
    ) depth 60 fits 20000

station_sync : (κ : NamedLft) → IsSync (station.the_field κ).row
station_sync κ =
    search (
      loop.the_field_sync,
      slot.the_field_sync,
      vec.the_sync,
      crosses,
      knot.crosses,
      sendable,
    ) depth 60 fits 20000

strays_sync : (κ : NamedLft) → IsSync (strays.the_field κ).row
strays_sync κ =
    search (
      index.the_field_sync,
      loop.the_field_sync,
      dependency.the_sync,
      head.the_field_sync,
      hl.the_sync,
      slot.the_field_sync,
      vec.the_sync,
      crosses,
      knot.crosses,
      sendable,
    ) depth 60 fits 20000

pub fast_sync : (κ : NamedLft) → IsSync (fast.the_field κ).row
fast_sync κ =
    search (
      children_sync,
      station_sync,
      strays_sync,
      loop.the_field_sync,
      dependency.the_sync,
      head.the_field_sync,
      hl.the_sync,
      slot.the_field_sync,
      vec.the_sync,
      crosses,
      knot.crosses,
      sendable,
    ) depth 60 fits 20000
