use Rattle.std.proofs.Common.{◌≡◌, ◌||◌, ◌<◌, ◌≤◌, ℕ, get_or, subst, List, Bool, true, false, ap, sym, ◌∙◌, length, Vec, drop, ◌+◌}
use Rattle.std.specs.declared.alloc.Global.{Global}
use Rattle.number_register.specs.SeenNumbers.{is_among, keys_in, number_key}
use Rattle.std.proofs.lemmas.List.{drop_all}
use Rattle.number_register.proofs.Runs.{in_slice, next_run, run_in_order}
use Rattle.number_register.proofs.seen.Seen.holds.Goals as goal

pub loop-run-preserved : goal.loop-run-preserved
loop-run-preserved c sorted =
    let runs : List (Vec (List ℕ) Global) = c.args.self.now.runs.items in
    let i : ℕ = c.loop-run.run-index in
    let run : Vec (List ℕ) Global = c.run-item.result in
    let within : i < length runs
    = subst (λ (rs : List (Vec (List ℕ) Global)). i < length rs) c.as_slice-run-items.ensures.value c.loop-run-test.true in
    let is : run ≡ get_or runs i run
    = subst (λ (rs : List (Vec (List ℕ) Global)). run ≡ get_or rs i run) c.as_slice-run-items.ensures.value c.run-item.is in
    let key : List ℕ = c.number_key-key.result in
    let here : is_among key run.items ≡ false
    = ap (is_among key) (sym c.as_slice.ensures.value)
    ∙ sym (c.has.ensures (in_slice c.as_slice.result.now run c.as_slice.ensures.value (run_in_order runs i run within is sorted)))
    ∙ c.if-has.false in
    ap (λ (b : Bool). b || is_among key (keys_in (drop (i + 1) runs))) (sym here)
    ∙ sym (next_run key runs i run within is)
    ∙ c.loop-run.invariant sorted

pub returns-then-has : goal.returns-then-has
returns-then-has c numbers has =
    let runs : List (Vec (List ℕ) Global) = c.args.self.now.runs.items in
    let i : ℕ = c.loop-run.run-index in
    let run : Vec (List ℕ) Global = c.run-item.result in
    let within : i < length runs
    = subst (λ (rs : List (Vec (List ℕ) Global)). i < length rs) c.as_slice-run-items.ensures.value c.loop-run-test.true in
    let is : run ≡ get_or runs i run
    = subst (λ (rs : List (Vec (List ℕ) Global)). run ≡ get_or rs i run) c.as_slice-run-items.ensures.value c.run-item.is in
    let key : List ℕ = c.number_key-key.result in
    let here : is_among key run.items ≡ true
    = ap (is_among key) (sym c.as_slice.ensures.value)
    ∙ sym (c.has.ensures (in_slice c.as_slice.result.now run c.as_slice.ensures.value (run_in_order runs i run within is has.ordered)))
    ∙ c.if-has.true in
    sym (sym (ap (λ (k : List ℕ). is_among k numbers) (c.number_key-key.ensures ∙ ap number_key c.header.ensures)) ∙ sym (has.same key)
    ∙ sym (c.loop-run.invariant has.ordered)
    ∙ next_run key runs i run within is
    ∙ ap (λ (b : Bool). b || is_among key (keys_in (drop (i + 1) runs))) here)

pub returns : goal.returns
returns c numbers has =
    let runs : List (Vec (List ℕ) Global) = c.args.self.now.runs.items in
    let i : ℕ = c.loop-run.run-index in
    let key : List ℕ = c.number_key-key.result in
    ap (λ (rs : List (Vec (List ℕ) Global)). is_among key (keys_in rs)) (sym (drop_all i runs
    (subst (λ (rs : List (Vec (List ℕ) Global)). length rs ≤ i) c.as_slice-run-items.ensures.value c.loop-run-test.false)))
    ∙ c.loop-run.invariant has.ordered ∙ has.same key
    ∙ ap (λ (k : List ℕ). is_among k numbers) (c.number_key-key.ensures ∙ ap number_key c.header.ensures)
