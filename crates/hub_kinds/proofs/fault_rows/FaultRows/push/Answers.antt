use Rattle.std.proofs.Common.{◌≡◌, ◌++◌, ◌∷◌, [], List, ap, subst, sym, rules, ◌∙◌}
use Rattle.hub_kinds.specs.declared.fault.Fault.{Fault}
use Rattle.hub_kinds.specs.Rows.{AreKept, Extends}
use Rattle.hub_kinds.proofs.Rows.{fault_added, row_added, rows_kept, unchanged, whole_kept}
use Rattle.hub_kinds.proofs.fault_rows.FaultRows.push.Goals as goal

pub invariant_of-self : goal.invariant_of-self
invariant_of-self c =
    rows_kept c.self.inside.texts.pairs.items c.row_of.new.texts.pairs.items c.self.inside.whole.items c.self.inside.whole.items
    c.self.inside.rows.items c.in_err-row.ensures.grown (unchanged c.self.inside.whole.items) c.self.invariant

pub invariant_of-self-in_err-push : goal.invariant_of-self-in_err-push
invariant_of-self-in_err-push c =
    subst (AreKept c.row_of.new.texts.pairs.items c.self.inside.whole.items) (sym c.in_err-push.ensures.items)
    (rows_kept c.self.inside.texts.pairs.items c.row_of.new.texts.pairs.items c.self.inside.whole.items c.self.inside.whole.items
    c.self.inside.rows.items c.in_ok-row.ensures.grown (unchanged c.self.inside.whole.items) c.self.invariant)

pub invariant_of-self-then-len-lt-MOST_PAIRS : goal.invariant_of-self-then-len-lt-MOST_PAIRS
invariant_of-self-then-len-lt-MOST_PAIRS c =
    row_added c.self.inside.texts.pairs.items c.row_of.new.texts.pairs.items c.self.inside.whole.items c.self.inside.whole.items
    c.self.inside.rows.items c.push.new.self.items c.in_ok-row.row c.in_ok-row.ensures.grown (unchanged c.self.inside.whole.items)
    c.self.invariant (c.in_ok-row.ensures.row c.self.inside.whole.items).0 c.in_ok-push.ensures.items

-- the list of what is kept whole after a fault more
longer : (whole others : List Fault) (fault : Fault) → others ≡ whole ++ fault ∷ [] → Extends whole others
longer whole others fault is = record { rest = fault ∷ []; is = is }

pub invariant_of-self-in_err-push-2 : goal.invariant_of-self-in_err-push-2
invariant_of-self-in_err-push-2 c =
    subst (λ (w : List Fault). AreKept c.self.inside.texts.pairs.items w c.self.inside.rows.items) (sym c.in_err-push-2.ensures.items)
    c.self.invariant

pub invariant_of-self-in-Continue-branch-4 : goal.invariant_of-self-in-Continue-branch-4
invariant_of-self-in-Continue-branch-4 c =
    let pairs = c.self.inside.texts.pairs.items in
    let whole = c.self.inside.whole.items in
    let others = c.push-else-fits.new.self.items in
    let is : others ≡ whole ++ c.args.fault ∷ [] = c.in_ok-push-2.ensures.items in
    let kept = whole_kept pairs whole others c.args.fault c.whole_row-row.result c.whole_row-row.ensures.kind
    (search (rules, c.whole_row-row.ensures.index)) is in
    row_added pairs pairs whole others c.self.inside.rows.items c.push-else-fits-2.new.self.items c.whole_row-row.result
    (unchanged pairs) (longer whole others c.args.fault is) c.self.invariant kept.0 c.in_ok-push-3.ensures.items

pub invariant_of-self-in_err-push-3 : goal.invariant_of-self-in_err-push-3
invariant_of-self-in_err-push-3 c =
    let pairs = c.self.inside.texts.pairs.items in
    let whole = c.self.inside.whole.items in
    let others = c.push-else-fits.new.self.items in
    let is : others ≡ whole ++ c.args.fault ∷ [] = c.in_ok-push-2.ensures.items in
    subst (AreKept pairs others) (sym c.in_err-push-3.ensures.items)
    (rows_kept pairs pairs whole others c.self.inside.rows.items (unchanged pairs) (longer whole others c.args.fault is)
    c.self.invariant)

pub returns-in_ok-push : goal.returns-in_ok-push
returns-in_ok-push c =
    fault_added c.self.inside.texts.pairs.items c.row_of.new.texts.pairs.items c.self.inside.whole.items c.self.inside.whole.items
    c.self.inside.rows.items c.push.new.self.items c.in_ok-row.row c.args.fault c.in_ok-row.ensures.grown
    (unchanged c.self.inside.whole.items) c.self.invariant (c.in_ok-row.ensures.row c.self.inside.whole.items).1
    c.in_ok-push.ensures.items
    ∙ ap (λ (l : List Fault). l ++ c.args.fault ∷ []) c.self.view_is

pub returns-in_ok-push-3 : goal.returns-in_ok-push-3
returns-in_ok-push-3 c =
    let pairs = c.self.inside.texts.pairs.items in
    let whole = c.self.inside.whole.items in
    let others = c.push-else-fits.new.self.items in
    let is : others ≡ whole ++ c.args.fault ∷ [] = c.in_ok-push-2.ensures.items in
    let kept = whole_kept pairs whole others c.args.fault c.whole_row-row.result c.whole_row-row.ensures.kind
    (search (rules, c.whole_row-row.ensures.index)) is in
    fault_added pairs pairs whole others c.self.inside.rows.items c.push-else-fits-2.new.self.items c.whole_row-row.result
    c.args.fault (unchanged pairs) (longer whole others c.args.fault is) c.self.invariant kept.1 c.in_ok-push-3.ensures.items
    ∙ ap (λ (l : List Fault). l ++ c.args.fault ∷ []) c.self.view_is
