use Rattle.std.proofs.Common.{◌≡◌, ◌+◌, ℕ, Some, ap, subst, ◌∙◌, cond, arith}
use Rattle.std.proofs.lemmas.Result.{on_ok_weaker}
use Rattle.std.specs.Prelude.{slice_set}
use Rattle.std.specs.BTreeMap.{get}
use Rattle.number_register.specs.First.{first_from, lesser}
use Rattle.number_register.specs.Known.{KnowsFirst}
use Rattle.number_register.proofs.FirstKeys.{first_set, noted}
use Rattle.number_register.proofs.book.know.Goals as goal

pub returns-in-Some-clause-ok : goal.returns-in-Some-clause-ok
returns-in-Some-clause-ok g c =
    on_ok_weaker c.note.result
    (λ now. noted g.K.Ord.cmp g.met.K.Ord.total c.args.keys.now (slice_set c.args.keys.now c.args.at (Some c.args.key)) c.args.at c.args.key
    (get g.K.Ord.cmp c.in-Some.least) (get g.K.Ord.cmp c.note.new.least)
    (λ test. first_set test 0 c.args.keys.now c.args.at c.args.key c.requires.absent
    ∙ ap (λ (p : ℕ). cond (test c.args.key) (lesser p (first_from test 0 c.args.keys.now)) (first_from test 0 c.args.keys.now))
    (let e : 0 + c.args.at ≡ c.args.at = omega arith in e))
    (subst (λ o. KnowsFirst g.K.Ord.cmp o c.args.keys.now) c.in-Some.is c.requires.known) now)
    c.note.ensures.ok

pub returns-in_ok-note-in-None-2-clause-ok : goal.returns-in_ok-note-in-None-2-clause-ok
returns-in_ok-note-in-None-2-clause-ok g c =
    noted g.K.Ord.cmp g.met.K.Ord.total c.args.keys.now (slice_set c.args.keys.now c.args.at (Some c.args.key)) c.args.at c.args.key
    (get g.K.Ord.cmp c.in_ok-first-in-None-2.first) (get g.K.Ord.cmp c.note-in-None-2.new.least)
    (λ test. first_set test 0 c.args.keys.now c.args.at c.args.key c.requires.absent
    ∙ ap (λ (p : ℕ). cond (test c.args.key) (lesser p (first_from test 0 c.args.keys.now)) (first_from test 0 c.args.keys.now))
    (let e : 0 + c.args.at ≡ c.args.at = omega arith in e))
    c.in_ok-first-in-None-2.ensures c.in_ok-note-in-None-2.ensures.ok
