use Rattle.std.proofs.Common.{◌≡◌, ◌≤◌, ◌<◌, ◌++◌, ℕ, List, [], ◌∷◌, ap, sym, subst, ◌∙◌, length, drop, set, refl, Vec, arith}
use Rattle.std.specs.declared.alloc.Global.{Global}
use Rattle.std.specs.List.Sorted.{IsPermutation}
use Rattle.std.proofs.lemmas.List.{take_all}
use Rattle.number_register.specs.SeenNumbers.{interchange_keys, keys_in}
use Rattle.number_register.proofs.Runs.{exchanged, joined, kept_always, kept_runs, rest_whole}
use Rattle.number_register.proofs.seen.Seen.add.Goals as goal

pub returns-in_err-push-clause-kept : goal.returns-in_err-push-clause-kept
returns-in_err-push-clause-kept c =
    kept_always c.from_residual-in_err-push.result (λ numbers has. kept_runs c.args.self.now _ numbers c.in_err-push.ensures.items has)

pub returns-in_ok-push-clause-added : goal.returns-in_ok-push-clause-added
returns-in_ok-push-clause-added c numbers has =
    let runs : List (Vec (List ℕ) Global) = c.args.self.now.runs.items in
    let kept : ℕ = c.runs_kept-kept.result in
    let run : Vec (List ℕ) Global = c.sort_unstable.new.self in
    let keys : List (List ℕ) = interchange_keys c.args.index.now.entries in
    let all : c.append_runs.new.run.items ≡ keys ++ keys_in (drop kept runs)
    = c.in_ok-append_runs.ensures
    ∙ ap (λ (rs : List (Vec (List ℕ) Global)). c.in_ok-run.run'.items ++ keys_in rs) (rest_whole kept c.as_slice-2.result.now)
    ∙ ap (λ (ks : List (List ℕ)). ks ++ keys_in (drop kept c.as_slice-2.result.now)) c.in_ok-run.ensures
    ∙ ap (λ (rs : List (Vec (List ℕ) Global)). keys ++ keys_in (drop kept rs)) c.as_slice-2.ensures.value in
    let long : length runs ≤ kept = omega (arith, c.if-kept-len.true, c.len-2.ensures) in
    joined runs kept keys run
    (subst (λ (ks : List (List ℕ)). IsPermutation ks run.items) all c.sort_unstable.ensures.permutation)
    c.args.self.now _ numbers refl
    (c.in_ok-push.ensures.items ∙ ap (λ (rs : List (Vec (List ℕ) Global)). rs ++ run ∷ []) (sym (take_all kept runs long)))
    c.sort_unstable.ensures.sorted has

pub returns-else-kept-len-clause-added : goal.returns-else-kept-len-clause-added
returns-else-kept-len-clause-added c numbers has =
    let runs : List (Vec (List ℕ) Global) = c.args.self.now.runs.items in
    let kept : ℕ = c.runs_kept-kept.result in
    let run : Vec (List ℕ) Global = c.sort_unstable.new.self in
    let keys : List (List ℕ) = interchange_keys c.args.index.now.entries in
    let all : c.append_runs.new.run.items ≡ keys ++ keys_in (drop kept runs)
    = c.in_ok-append_runs.ensures
    ∙ ap (λ (rs : List (Vec (List ℕ) Global)). c.in_ok-run.run'.items ++ keys_in rs) (rest_whole kept c.as_slice-2.result.now)
    ∙ ap (λ (ks : List (List ℕ)). ks ++ keys_in (drop kept c.as_slice-2.result.now)) c.in_ok-run.ensures
    ∙ ap (λ (rs : List (Vec (List ℕ) Global)). keys ++ keys_in (drop kept rs)) c.as_slice-2.ensures.value in
    let within : kept < length runs
    = omega (arith, c.if-kept-len.false, c.len-2.ensures, c.runs_kept-kept.ensures, c.as_slice.ensures.len) in
    joined runs kept keys run
    (subst (λ (ks : List (List ℕ)). IsPermutation ks run.items) all c.sort_unstable.ensures.permutation)
    c.args.self.now _ numbers refl
    (ap (λ (rs : List (Vec (List ℕ) Global)). set rs kept run) c.truncate.ensures.items ∙ exchanged kept runs run within)
    c.sort_unstable.ensures.sorted has
