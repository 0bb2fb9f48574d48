use Rattle.std.proofs.Common.{◌≡◌, ℕ, ◌+◌, List, [], ◌∷◌, ◌++◌, take, refl, sym, ap, subst, ◌∙◌, append_assoc, append-nil, arith}
use Rattle.std.proofs.lemmas.List.{take_all}
use Rattle.std.proofs.lemmas.Option.{get_or_from_slice_get}
use Rattle.mailbox.proofs.ForAbove.{take_one_more}
use Rattle.std.proofs.lemmas.List.Concat.{flat_map-append}
use Rattle.mailbox.specs.Deliveries.{outcome_at}
use Rattle.track_table.specs.Rows.{outcome_cells}
use Rattle.track_table.specs.Walking.{AreAmid, outcome_texts, row_text}
use Rattle.track_table.proofs.Targets.{amid_none, apart_before}
use Rattle.track_table.proofs.rows.append_targets.Goals as goal

pub loop-t-init : goal.loop-t-init
loop-t-init c = record {
  count = refl;
  rows = λ before behind. (
    sym (append-nil c.args.out.now.items),
    amid_none c.args.by.now before c.args.placed.now c.args.cursors.now behind,
  );
}

pub loop-t-preserved : goal.loop-t-preserved
loop-t-preserved c =
    let route = c.args.route.now in
    let t : ℕ = c.loop-t.t in
    let to : ℕ = c.target_at-to.result in
    record {
      count = c.in_ok-append_row.ensures.count ∙ c.loop-t.invariant.count;
      rows = λ before behind.
          let done = c.loop-t.invariant.rows before behind in
          let none = apart_before route t to c.requires.apart c.loop-t-test.true
          (sym (get_or_from_slice_get route t to to c.target_at-to.ensures)) in
          let row = c.in_ok-append_row.ensures.row before (take t route) none done.1 in
          let next = row_text c.args.line.now (outcome_cells c.args.by.now before c.args.placed.now
          (outcome_at c.args.by.now.setup c.args.placed.now to)) in
          let more : take (t + 1) route ≡ take t route ++ to ∷ [] =
          take_one_more route t to c.target_at-to.ensures in (
            row.0 ∙ ap (λ (text : List ℕ). text ++ next) done.0
                ∙ append_assoc c.args.out.now.items
                (outcome_texts c.args.by.now before c.args.line.now c.args.placed.now (take t route)) next
                ∙ ap (λ (text : List ℕ). c.args.out.now.items ++ text) (
                ap (λ (text : List ℕ). outcome_texts c.args.by.now before c.args.line.now c.args.placed.now (take t route) ++ text)
                (sym (append-nil next))
                ∙ sym (flat_map-append (λ (n : ℕ). row_text c.args.line.now (outcome_cells c.args.by.now before c.args.placed.now
                (outcome_at c.args.by.now.setup c.args.placed.now n))) (take t route) (to ∷ []))
                ∙ ap (outcome_texts c.args.by.now before c.args.line.now c.args.placed.now) (sym more)),
            subst (λ (ts : List ℕ). AreAmid c.args.by.now before c.args.placed.now ts c.append_row.new.cursors) (sym more) row.1,
          );
    }

pub returns-clause-rows : goal.returns-clause-rows
returns-clause-rows c before behind =
    let route = c.args.route.now in
    let all : take c.loop-t.t route ≡ route = take_all c.loop-t.t route (omega (arith, c.loop-t-test.false)) in
    let done = c.loop-t.invariant.rows before behind in (
      done.0 ∙ ap (λ (ts : List ℕ). c.args.out.now.items
          ++ outcome_texts c.args.by.now before c.args.line.now c.args.placed.now ts) all,
      subst (λ (ts : List ℕ). AreAmid c.args.by.now before c.args.placed.now ts c.loop-t.cursors) all done.1,
    )
