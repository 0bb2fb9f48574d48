use Rattle.std.proofs.Common.{[], List, ℕ, ◌∷◌, ◌+◌, arith, get_or, map, refl, take}
use Rattle.std.specs.Borrow.{Bor}
use Rattle.csv_fields.specs.Csv.{field_text, read}
use Rattle.track_read.specs.Export.{exported}
use Rattle.track_read.proofs.Growing.{flat_more, taken_twice}
use Rattle.track_read.proofs.export.append_others.Goals as goal

pub loop-i-preserved : goal.loop-i-preserved
loop-i-preserved c =
    let fields : List (Bor (List ℕ)) = c.args.fields.now in
    let d : Bor (List ℕ) = record { ref_ptr = (0, 0); now = [] } in
    let field : Bor (List ℕ) = get_or fields c.loop-i.i d in
    let see : Bor (List ℕ) → List ℕ = λ field. field.now in
    let form = exported c.args.form in
    flat_more (λ field. 44 ∷ field_text field) (map form (read (take c.loop-i.i fields))) (map form (read (take (c.loop-i.i + 1) fields)))
    (form field.now) c.args.out.now.items c.loop-i.out.items c.append_next.new.out.items
    (taken_twice see form fields c.loop-i.i field d (omega (arith)) refl) c.loop-i.invariant c.in_ok-append_next.ensures
