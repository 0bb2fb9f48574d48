use Rattle.std.proofs.Common.{◌≡◌, ◌∙◌, ap, refl, sym, true}
use Rattle.night_record.specs.Values.{is_moment}
use Rattle.night_record.proofs.Between.{text_once}
use Rattle.night_record.proofs.head.read_moment.Goals as goal

pub returns-then-not-is_moment-clause-refused : goal.returns-then-not-is_moment-clause-refused
returns-then-not-is_moment-clause-refused c = (
  refl,
  λ value can same. (
      let one = text_once c.args.key.now c.in-Some.moment.now value (sym c.in-Some.ensures ∙ same) in
      let is : is_moment c.in-Some.moment.now ≡ true = ap is_moment one ∙ can in
      cc
      ),
)
