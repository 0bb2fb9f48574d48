use Rattle.std.proofs.Common.{◌≡◌, ◌∙◌, ◌+◌, ◌++◌, ℕ, Bool, List, [], ap, ap₂, append-nil, arith, drop, false, get_or, sym}
use Rattle.std.specs.Prelude.{if◌then◌else◌}
use Rattle.std.proofs.lemmas.List.{at_drop_all}
use Rattle.env_index.specs.declared.entry.SetEnvelope.{SetEnvelope}
use Rattle.sets_again.specs.Text.{chosen_sets, set_bytes}
use Rattle.sets_again.proofs.Steps.{chosen_none}
use Rattle.sets_again.proofs.Walking.{drop_at, drop_found, written_more}
use Rattle.sets_again.proofs.text.append_sets.Goals as goal

pub loop-i-preserved : goal.loop-i-preserved
loop-i-preserved c =
    let text : List ℕ = c.args.text.now in
    let sets = c.args.group.now.sets in
    let chosen : List Bool = c.args.chosen.now in
    let i = c.loop-i.i in
    let set = c.set-set.result in
    let is : Bool = get_or chosen i false in
    written_more c.loop-i.out.items c.append_set.new.out.items (c.args.out.now.items ++ chosen_sets text sets chosen)
    (if is then set_bytes text set else []) (chosen_sets text (drop (i + 1) sets) (drop (i + 1) chosen))
    (chosen_sets text (drop i sets) (drop i chosen)) c.loop-i.invariant c.in_ok-append_set.ensures
    (ap₂ (λ (s : List SetEnvelope) (l : List Bool). chosen_sets text s l) (drop_found sets i set c.set-set.ensures)
    (drop_at chosen i false (omega (arith))))

pub returns : goal.returns
returns c =
    let text : List ℕ = c.args.text.now in
    let sets = c.args.group.now.sets in
    let chosen : List Bool = c.args.chosen.now in
    let i = c.loop-i.i in
    let out : List ℕ = c.loop-i.out.items in
    let empty : chosen_sets text (drop i sets) (drop i chosen) ≡ [] =
    at_drop_all (λ (l : List Bool). chosen_sets text (drop i sets) l) chosen i (omega (arith, c.loop-i-test.false, c.loop-i.auto.i-end))
    ∙ chosen_none text (drop i sets) in
    sym (append-nil out) ∙ ap (λ (t : List ℕ). out ++ t) (sym empty) ∙ c.loop-i.invariant
