use Rattle.std.proofs.Common.{◌≡◌, ◌∙◌, ◌++◌, sym, ap, ℕ, List, append_assoc, string_bytes}
use Rattle.std.specs.List.{flat_map}
use Rattle.toml.specs.View.{members_view}
use Rattle.guide_names.specs.Names.{texts_of}
use Rattle.guide_names.specs.Subjects.{of_code, of_key}
use Rattle.guide_names.proofs.subjects.push_codes.Goals as goal

pub loop-key-preserved : goal.loop-key-preserved
loop-key-preserved c =
    let reference : List ℕ = c.args.reference.now in
    let old : List (List ℕ) = c.loop-key.found.items in
    let rest : List (List ℕ) = flat_map (of_code reference) (texts_of (members_view c.next.new.self)) in
    ap (λ (xs : List (List ℕ)). xs ++ rest) c.in_ok-push_code.ensures
    ∙ append_assoc old (of_key reference c.as_bytes.result.now) rest
    ∙ ap (λ (k : List ℕ). old ++ (of_key reference k ++ rest)) c.as_bytes.ensures.value
    ∙ ap (λ (es : List _). old ++ flat_map (of_code reference) (texts_of (members_view es))) (sym c.in-Some.ensures.steps)
    ∙ c.loop-key.invariant
