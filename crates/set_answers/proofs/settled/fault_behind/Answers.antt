use Rattle.std.proofs.Common.{◌≡◌, ◌++◌, ◌||◌, ℕ, List, Bool, Option, None, ap, sym, ◌∙◌}
use Rattle.std.specs.Str.{bytes_eq}
use Rattle.std.proofs.lemmas.List.Folds.{list_any-append}
use Rattle.hub_kinds.specs.declared.interchange.InterchangeFault.{InterchangeFault}
use Rattle.set_answers.specs.Seen.{is_among}
use Rattle.set_answers.specs.Settled.{fault_if_earlier, number_key}
use Rattle.set_answers.proofs.Among.{known_is_among}
use Rattle.set_answers.proofs.settled.fault_behind.Goals as goal

pub returns-clause-fault : goal.returns-clause-fault
returns-clause-fault c before keys seen known =
    let key : List ℕ = number_key c.args.interchange.now.header in
    let alone : c.args.alone ≡ None = c.in_default.is in
    let named : c.number_key.result ≡ key = c.number_key.ensures ∙ ap number_key c.header.ensures in
    let here : c.in_ok-here.here ≡ is_among key keys
    = c.in_ok-here.ensures.earlier keys known ∙ known_is_among c.number_key.result keys ∙ ap (λ (k : List ℕ). is_among k keys) named in
    c.fault_if_earlier.ensures
    ∙ ap (λ (b : Bool). fault_if_earlier None (b || c.in_ok-here.here)) (c.holds.ensures before seen)
    ∙ ap (λ (b : Bool). fault_if_earlier None (is_among key before || b)) here
    ∙ ap (fault_if_earlier None) (sym (list_any-append (bytes_eq key) before keys))
    ∙ ap (λ (f : Option InterchangeFault). fault_if_earlier f (is_among key (before ++ keys))) (sym alone)
