use Rattle.std.proofs.Common.{◌≡◌, None, Some, subst, ap, sym, ◌∙◌}
use Rattle.std.specs.Prelude.{slice_get}
use Rattle.std.proofs.lemmas.Option.{get_or_from_slice_get}
use Rattle.number_register.specs.First.{AreRising, first_of, where_before}
use Rattle.number_register.specs.Known.{KnowsFirst}
use Rattle.number_register.proofs.FirstKeys.{rising_first}
use Rattle.number_register.proofs.book.Book.earlier.Goals as goal

pub returns-in-None : goal.returns-in-None
returns-in-None g c key there =
    let keys = c.self.inside.keys.items in
    let rising : AreRising g.K.Ord.cmp keys = subst (λ o. KnowsFirst g.K.Ord.cmp o keys) c.in-None.is c.self.invariant.1 in
    let view : keys ≡ c.args.self.now = c.self.view_is in
    sym (subst (λ ks. where_before c.args.at (first_of g.K.Ord.cmp ks key) ≡ None) view
    (rising_first g.K.Ord.cmp g.met.K.Ord.total keys c.args.at key rising
    (subst (λ ks. slice_get ks c.args.at ≡ Some (Some key)) (sym view) there)))

pub returns-in-Some : goal.returns-in-Some
returns-in-Some g c key there =
    let keys = c.self.inside.keys.items in
    let known = subst (λ o. KnowsFirst g.K.Ord.cmp o keys) c.in-Some.is c.self.invariant.1 in
    let view : keys ≡ c.args.self.now = c.self.view_is in
    let read : slice_get keys c.args.at ≡ Some (Some key) = subst (λ ks. slice_get ks c.args.at ≡ Some (Some key)) (sym view) there in
    let item : c.index.result.now ≡ Some key = c.index.ensures ∙ get_or_from_slice_get keys c.args.at (Some key) _ read in
    c.earlier_by.ensures key item ∙ ap (λ o. where_before c.args.at o) (known key)
    ∙ ap (λ ks. where_before c.args.at (first_of g.K.Ord.cmp ks key)) view
