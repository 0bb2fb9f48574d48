use Rattle.std.proofs.Common.{◌∙◌, rules}
use Rattle.std.specs.Cmp.Lexicographic.{slice_cmp}
use Rattle.std.specs.Ordering.{nat_cmp}
use Rattle.std.proofs.lemmas.Fn.{always_returns_same}
use Rattle.night_page.specs.Names.{text_of}
use Rattle.night_page.proofs.Naming.{searched}
use Rattle.night_page.proofs.name.has_name.Goals as goal

pub returns : goal.returns
returns c =
    let found = c.binary_search_by.ensures in
    let by_key = found.position (λ name. slice_cmp nat_cmp (text_of name) c.args.text.now)
    (always_returns_same _ _ _ (λ a r g called. search rules)) in
    c.is_ok.ensures.value ∙ searched c.args.all.now c.args.text.now c.binary_search_by.result c.requires found.bound by_key
