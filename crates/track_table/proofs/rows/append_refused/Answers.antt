use Rattle.std.proofs.Common.{◌≡◌, ℕ, List, [], ◌∷◌, ◌++◌, codes, ap, ◌∙◌, append_assoc}
use Rattle.std.proofs.lemmas.Result.{on_ok_weaker}
use Rattle.partner_setup.specs.Setup.{SetupValue}
use Rattle.csv_fields.specs.Csv.{cells_text, fields_text}
use Rattle.track_table.specs.Cells.{interchange_cells, no_set_cells, plain_end}
use Rattle.track_table.specs.Rows.{TrackedBy}
use Rattle.track_table.proofs.Walks.{head_made}
use Rattle.track_table.proofs.rows.append_refused.Goals as goal

one_behind : (old i n p e : List ℕ) → (((old ++ i) ++ n) ++ p) ++ e ≡ old ++ ((i ++ (n ++ p)) ++ e)
one_behind old i n p e =
    ap (λ (t : List ℕ). t ++ e) (ap (λ (t : List ℕ). t ++ p) (append_assoc old i n) ∙ append_assoc old (i ++ n) p
    ∙ ap (λ (t : List ℕ). old ++ t) (append_assoc i n p))
    ∙ append_assoc old (i ++ (n ++ p)) e

pub returns : goal.returns
returns c =
    let x = c.args.judged.now in
    let n : ℕ = c.args.n in
    let old : List ℕ = c.args.out.now.items in
    let inside : SetupValue = c.by.inside.setup.now in
    let refused : List (List ℕ) = plain_end (codes "refused") in
    let i : List ℕ = cells_text (interchange_cells inside n x) in
    let e : List ℕ = 13 ∷ 10 ∷ [] in
    on_ok_weaker c.append_end.result
    (λ text. text
    ∙ ap (λ (t : List ℕ). t ++ e) (c.in_ok-append_plain.ensures
    ∙ ap (λ (t : List ℕ). t ++ fields_text refused) (c.in_ok-append_no_set.ensures
    ∙ ap (λ (t : List ℕ). t ++ fields_text no_set_cells) c.in_ok-append_interchange.ensures))
    ∙ one_behind old i (fields_text no_set_cells) (fields_text refused) e
    ∙ ap (λ (t : List ℕ). old ++ (t ++ e)) (head_made inside n x (no_set_cells ++ refused))
    ∙ ap (λ (s : SetupValue). old ++ (cells_text (interchange_cells s n x ++ (no_set_cells ++ refused)) ++ e))
    (ap (λ (b : TrackedBy). b.setup) c.by.view_is))
    c.append_end.ensures
