use Rattle.std.proofs.Common.{◌↔◌, List, map, subst, sym}
use Rattle.std.specs.List.{Contains}
use Rattle.hub_kinds.specs.declared.fault.Fault.{Fault}
use Rattle.hub_kinds.specs.Fault.{key_of}
use Rattle.hub_kinds.specs.Rising.{IsKeyedBy}
use Rattle.hub_kinds.specs.Rows.{IsOnceEach, fault_at, row_key}
use Rattle.hub_kinds.proofs.Rows.{rows_rising, same_faults}
use Rattle.hub_kinds.proofs.fault_rows.FaultRows.put_in_order.Goals as goal

pub invariant_of-self : goal.invariant_of-self
invariant_of-self c = λ row h. c.self.invariant row (c.put_in_order.ensures.from row h)

pub returns-clause-same : goal.returns-clause-same
returns-clause-same c =
    let pairs = c.self.inside.texts.pairs.items in
    let whole = c.self.inside.whole.items in
    let once = subst (λ (w : List Fault). IsOnceEach (row_key w) c.self.inside.rows.items c.put_in_order.new.rows.items)
    c.as_slice.ensures.value c.put_in_order.ensures in
    subst (λ (l : List Fault). (f : Fault) → Contains (map (fault_at pairs whole) c.put_in_order.new.rows.items) f ↔ Contains l f)
    c.self.view_is
    (same_faults pairs whole c.self.inside.rows.items c.put_in_order.new.rows.items once
    (subst (IsKeyedBy key_of) (sym c.self.view_is) c.requires))

pub returns-clause-rising : goal.returns-clause-rising
returns-clause-rising c =
    let once = subst (λ (w : List Fault). IsOnceEach (row_key w) c.self.inside.rows.items c.put_in_order.new.rows.items)
    c.as_slice.ensures.value c.put_in_order.ensures in
    rows_rising c.self.inside.texts.pairs.items c.self.inside.whole.items c.put_in_order.new.rows.items once.rising
