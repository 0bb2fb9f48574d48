use Rattle.std.proofs.Common.{◌≡◌, ◌+◌, ◌++◌, ◌∷◌, [], ℕ, Some, length, sym, ap, subst, ◌∙◌, cond, arith}
use Rattle.std.proofs.lemmas.Result.{on_ok_weaker}
use Rattle.std.specs.BTreeMap.{get}
use Rattle.number_register.specs.First.{first_from, first_of, lesser}
use Rattle.number_register.proofs.FirstKeys.{first_absent, first_snoc, noted}
use Rattle.number_register.proofs.book.note_any.Goals as goal

pub returns-in-Some : goal.returns-in-Some
returns-in-Some g c =
    on_ok_weaker c.note.result
    (λ now keys counted was.
    subst (λ k. (q : g.row.K.Denot) → get g.K.Ord.cmp c.note.new.least q ≡ first_of g.K.Ord.cmp (keys ++ k ∷ []) q) (sym c.in-Some.is)
    (noted g.K.Ord.cmp g.met.K.Ord.total keys (keys ++ Some c.in-Some.key ∷ []) c.args.position c.in-Some.key
    (get g.K.Ord.cmp c.args.least.now) (get g.K.Ord.cmp c.note.new.least)
    (λ test. first_snoc test 0 keys c.in-Some.key
    ∙ ap (λ (p : ℕ). cond (test c.in-Some.key) (lesser p (first_from test 0 keys)) (first_from test 0 keys))
    (let e : 0 + length keys ≡ c.args.position = omega (arith, counted) in e))
    was now))
    c.note.ensures.ok

pub returns-in-None : goal.returns-in-None
returns-in-None g c keys counted was q =
    was q ∙ sym (ap (λ k. first_of g.K.Ord.cmp (keys ++ k ∷ []) q) c.in-None.is ∙ first_absent _ 0 keys)
