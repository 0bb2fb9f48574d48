use Rattle.std.proofs.Common.{◌≡◌, ◌++◌, ◌∷◌, [], ℕ, List, Option, ◌∙◌, ap, sym, true}
use Rattle.std.specs.Prelude.{is_some}
use Rattle.x12_bytes.specs.HeaderTest.{is_head}
use Rattle.x12_bytes.specs.Header.{header_delims}
use Rattle.x12_bytes.specs.declared.delims.Delims.{Delims}
use Rattle.isa_scan.specs.declared.heads.HeadAt.{HeadAt}
use Rattle.isa_scan.proofs.HeadLemmas.{head_one}
use Rattle.isa_scan.proofs.scan.add_head.Goals as goal

pub returns : goal.returns
returns c =
    let text : List ℕ = c.args.text.now in
    let start : ℕ = c.args.start in
    let head : is_head text start ≡ true = sym c.read_header.ensures.test ∙ ap (λ (o : Option (List ℕ)). is_some o) c.in-Some.is in
    c.in_ok-push.ensures.items
    ∙ ap (λ (l : List HeadAt). c.args.list.now.items ++ l)
    (ap (λ (d : Delims). (let h : HeadAt
    = record { start = start; pair = record { element = d.element; terminator = d.terminator } } in h) ∷ [])
    (c.delims-delims.ensures.value ∙ ap header_delims (c.in-Some.ensures.lent)))
    ∙ ap (λ (l : List HeadAt). c.args.list.now.items ++ l) (sym (head_one text start head))
