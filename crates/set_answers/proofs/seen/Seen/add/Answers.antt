use Rattle.std.proofs.Common.{List, [], ◌∷◌, ◌++◌, Some, ap, sym, subst, ◌∙◌}
use Rattle.set_answers.specs.Known.{HasExactly, KnowsBy}
use Rattle.set_answers.proofs.Among.{has_more, greater_is_new, greater_is_greatest}
use Rattle.set_answers.proofs.seen.Seen.add.Goals as goal

pub returns-in_ok-insert-in-Some-clause-known : goal.returns-in_ok-insert-in-Some-clause-known
returns-in_ok-insert-in-Some-clause-known g c numbers knows =
    has_more g.K.Ord.cmp g.met.K.Ord.total c.in-Some.ordered c.insert.new.self c.args.number numbers
    c.in_ok-insert-in-Some.ensures.updates.0
    (subst (λ o. KnowsBy g.K.Ord.cmp o c.args.self.now numbers) c.in-Some.is knows)

pub returns-in_ok-push-in-None-clause-earlier : goal.returns-in_ok-push-in-None-clause-earlier
returns-in_ok-push-in-None-clause-earlier g c numbers knows =
    let rising = subst (λ o. KnowsBy g.K.Ord.cmp o c.args.self.now numbers) c.in-None.is knows in
    sym (greater_is_new g.K.Ord.cmp g.met.K.Ord.total numbers c.args.number c.args.self.now.greatest rising.1
    (sym c.is_greater.ensures ∙ c.if-is_greater.true))

pub returns-in_ok-push-in-None-clause-known : goal.returns-in_ok-push-in-None-clause-known
returns-in_ok-push-in-None-clause-known g c numbers knows =
    let rising = subst (λ o. KnowsBy g.K.Ord.cmp o c.args.self.now numbers) c.in-None.is knows in
    subst (λ o. KnowsBy g.K.Ord.cmp o (record c.args.self.now { rising = c.push.new.self; greatest = Some c.args.number })
    (numbers ++ c.args.number ∷ []))
    (sym c.in-None.is) (
      c.in_ok-push-in-None.ensures.items ∙ ap (λ (ns : List g.row.K.Denot). ns ++ c.args.number ∷ []) rising.0,
      greater_is_greatest g.K.Ord.cmp g.met.K.Ord.total numbers c.args.number c.args.self.now.greatest rising.1
          (sym c.is_greater.ensures ∙ c.if-is_greater.true),
    )

pub returns-in_ok-earlier-in-None-2-clause-known :
    goal.returns-in_ok-earlier-in-None-2-clause-known
returns-in_ok-earlier-in-None-2-clause-known g c numbers knows =
    let rising = subst (λ o. KnowsBy g.K.Ord.cmp o c.args.self.now numbers) c.in-None.is knows in
    has_more g.K.Ord.cmp g.met.K.Ord.total c.in_ok-ordered-in-None-2.ordered c.insert-in-None-2.new.self c.args.number numbers
    c.in_ok-earlier-in-None-2.ensures.updates.0
    (subst (HasExactly g.K.Ord.cmp c.in_ok-ordered-in-None-2.ordered) (c.as_slice.ensures.value ∙ rising.0)
    c.in_ok-ordered-in-None-2.ensures)
