use Rattle.std.proofs.Common.{◌∙◌, ℕ, List, ap, sym}
use Rattle.std.proofs.lemmas.Result.{IfOk-weaker}
use Rattle.night_entries.specs.Files.{files_of, name_in}
use Rattle.night_entries.specs.Named.{found_in}
use Rattle.night_entries.proofs.Same.{files_same}
use Rattle.night_entries.proofs.files.files_of.Goals as goal

pub returns : goal.returns
returns c =
    let given : List (List ℕ) = c.as_slice-2.result.now in
    IfOk-weaker c.files_by.result _ _
    (λ list is. is ∙ files_same given c.args.listed.now c.args.found.now (found_in c.in_ok-by_name.field-0)
    (found_in c.in_ok-by_name-2.field-0) (found_in c.in_ok-by_name-3.field-0)
    (λ q. c.in_ok-by_name.ensures q ∙ ap (λ (l : List (List ℕ)). name_in l q) (c.as_slice.ensures.value ∙ sym c.as_slice-2.ensures.value))
    c.in_ok-by_name-2.ensures c.in_ok-by_name-3.ensures
    ∙ ap (λ (l : List (List ℕ)). files_of l c.args.listed.now c.args.found.now) (c.as_slice-2.ensures.value ∙ c.in_ok-given.ensures))
    c.files_by.ensures
