use Rattle.std.proofs.Common.{ℕ, List, Option, subst, sym}
use Rattle.std.proofs.lemmas.Result.{IfOk-weaker}
use Rattle.std.specs.Borrow.{Bor}
use Rattle.std.specs.Prelude.{IfOk, option_map}
use Rattle.record_review.specs.Records.{IsReadOf}
use Rattle.record_review.proofs.Nights.{night_is}
use Rattle.record_review.proofs.read.read_of.Goals as goal

pub returns-in-Ok : goal.returns-in-Ok
returns-in-Ok g c =
    let folder : List ℕ = c.args.folder.now in
    let name : List ℕ = c.args.name.now in
    let bytes : List ℕ = c.in-Some.bytes.now in
    subst (λ (b : Option (Bor (List ℕ))). IfOk c.night_of.result (IsReadOf folder name (option_map (λ (x : Bor (List ℕ)). x.now) b)))
    (sym c.in-Some.is)
    (IfOk-weaker c.night_of.result _ _ (λ read is. night_is folder name bytes c.in-Ok.told read c.in-Ok.ensures.record_is is)
    c.night_of.ensures)
