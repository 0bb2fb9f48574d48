use Rattle.std.proofs.Common.{◌∙◌, [], List, ap, inr, length, subst}
use Rattle.night_marks.specs.Order.{in_order}
use Rattle.night_marks.specs.declared.mark.NightMark.{NightMark}
use Rattle.hub_folder.specs.Older.{map_now}
use Rattle.hub_adopt.specs.Adopt.{CanBeAdopted, MayLeaveFirst}
use Rattle.hub_adopt.proofs.adopt.adopt_on.Goals as goal
use denote.Ref.{Bor}

pub returns-in_err-adopt_all-clause-stopped : goal.returns-in_err-adopt_all-clause-stopped
returns-in_err-adopt_all-clause-stopped g c =
    let adoption = c.args.adoption.now in
    let order : List (Bor NightMark) = c.in_ok-order.order.items in
    let old = g.S.Shelf.place c.args.shelf.now in
    let new = g.S.Shelf.place c.adopt_all.new.shelf in
    inr (record {
      olds = map_now order;
      olds_are = record {
        marks = c.in_ok-marks.marks.items;
        marks_are = c.in_ok-marks.ensures;
        order_is = c.in_ok-order.ensures ∙ ap (λ (m : List NightMark). in_order (length m) [] m) c.as_slice.ensures.value;
        can_be =
            subst (λ (l : List (Bor NightMark)). CanBeAdopted adoption (map_now l)) c.as_slice-2.ensures.value
            c.in_ok-check_all.ensures;
      };
      first =
          subst (λ (l : List (Bor NightMark)). MayLeaveFirst adoption (map_now l) old new) c.as_slice-4.ensures.value
          c.adopt_all.ensures.stopped;
    })

pub returns-clause-stopped : goal.returns-clause-stopped
returns-clause-stopped g c =
    let adoption = c.args.adoption.now in
    let order : List (Bor NightMark) = c.in_ok-order.order.items in
    let old = g.S.Shelf.place c.args.shelf.now in
    let new = g.S.Shelf.place c.adopt_all.new.shelf in
    inr (record {
      olds = map_now order;
      olds_are = record {
        marks = c.in_ok-marks.marks.items;
        marks_are = c.in_ok-marks.ensures;
        order_is = c.in_ok-order.ensures ∙ ap (λ (m : List NightMark). in_order (length m) [] m) c.as_slice.ensures.value;
        can_be =
            subst (λ (l : List (Bor NightMark)). CanBeAdopted adoption (map_now l)) c.as_slice-2.ensures.value
            c.in_ok-check_all.ensures;
      };
      first =
          subst (λ (l : List (Bor NightMark)). MayLeaveFirst adoption (map_now l) old new) c.as_slice-4.ensures.value
          c.adopt_all.ensures.stopped;
    })
