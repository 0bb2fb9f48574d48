use Rattle.std.proofs.Common.{◌≡◌, ◌∙◌, ◌++◌, ℕ, List, ap}
use Rattle.std.specs.Prelude.{codes}
use Rattle.std.proofs.lemmas.Result.{on_ok_weaker}
use Rattle.x12_bytes.specs.Header.{field_of, header_at, header_delims}
use Rattle.x12_bytes.specs.declared.delims.Delims.{Delims}
use Rattle.sets_again.specs.Text.{groups_count, groups_text, trailer_text}
use Rattle.sets_again.proofs.Walking.{two}
use Rattle.sets_again.proofs.text.append_interchange.Goals as goal

pub returns : goal.returns
returns c =
    let text : List ℕ = c.args.text.now in
    let x = c.args.interchange.now in
    let groups = x.content.groups in
    let chosen = c.args.chosen.now in
    let out : List ℕ = c.args.out.now.items in
    let d : Delims = header_delims x.header in
    let made : Delims = c.delims-delims.result in
    let d_is : made ≡ d = c.delims-delims.ensures.value ∙ ap header_delims c.header-header.ensures in
    let id : List ℕ = codes "IEA" in
    let number : List ℕ = field_of x.header 13 in
    let number_is : c.field.result.now ≡ number = c.field.ensures.value ∙ ap (λ (h : List ℕ). field_of h 13) c.header-header.ensures in
    let count : ℕ = groups_count groups chosen in
    let head : List ℕ = c.append.new.out.items in
    let after : List ℕ = c.append_groups.new.out.items in
    let end : List ℕ = c.append_trailer.new.out.items in
    on_ok_weaker c.append_trailer.result (λ adds. two out head end (header_at text x.start)
    (groups_text text d groups chosen ++ trailer_text d id count number)
    (c.in_ok-append.ensures ∙ ap (λ (t : List ℕ). out ++ t) (c.header_bytes.ensures
    ∙ ap (λ (s : ℕ). header_at text s) c.start-start.ensures))
    (two head after end (groups_text text d groups chosen) (trailer_text d id count number)
    (c.in_ok-count.ensures.text ∙ ap (λ (k : Delims). head ++ groups_text text k groups chosen) d_is)
    (adds ∙ ap (λ (k : Delims). after ++ trailer_text k id c.in_ok-count.count c.field.result.now) d_is
    ∙ ap (λ (n : ℕ). after ++ trailer_text d id n c.field.result.now) c.in_ok-count.ensures.count
    ∙ ap (λ (n : List ℕ). after ++ trailer_text d id count n) number_is)))
    c.append_trailer.ensures
