use Rattle.std.proofs.Common.{◌≡◌, ◌∙◌, ap, refl, sym, true}
use Rattle.night_record.specs.Values.{is_name}
use Rattle.night_record.proofs.Between.{text_once}
use Rattle.night_record.proofs.head.read_name.Goals as goal

pub returns-then-not-is_name-clause-refused : goal.returns-then-not-is_name-clause-refused
returns-then-not-is_name-clause-refused c = (
  refl,
  λ value can same. (
      let one = text_once c.args.key.now c.in-Some.name.now value (sym c.in-Some.ensures ∙ same) in
      let is : is_name c.in-Some.name.now ≡ true = ap is_name one ∙ can in
      cc
      ),
)
