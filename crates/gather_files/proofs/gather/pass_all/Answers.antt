use Rattle.std.proofs.Common.{◌∙◌, ◌≤◌, ℕ, List, ap, refl, sym, subst, rules}
use Rattle.std.proofs.lemmas.Result.{IfOk-weaker}
use Rattle.x12_bytes.specs.Header.{header_at, terminator_of}
use Rattle.gather_files.proofs.Beginning.{begun_passed, passed_too_long}
use Rattle.gather_files.proofs.Passing.{passed_more}
use Rattle.gather_files.proofs.gather.pass_all.Goals as goal

pub loop-held-init : goal.loop-held-init
loop-held-init g c = record {
  passed = λ first begun. begun_passed first (g.S.Source.remaining c.args.file.now) (g.W.Write.contents c.args.out.now) c.args.held
      c.first_terminator.result begun c.requires.header
      (c.first_terminator.ensures ∙ ap (λ (l : List ℕ). terminator_of (header_at l 0)) c.bytes.ensures);
  few = c.requires.few;
  faults = refl;
}

pub returns-in_err-fill-clause-long : goal.returns-in_err-fill-clause-long
returns-in_err-fill-clause-long g c is first begun =
    passed_too_long first (g.S.Source.remaining c.loop-held.file) (g.W.Write.contents c.args.out.now) (g.W.Write.contents c.loop-held.out)
    c.loop-held.held c.loop-held.passing 4294967295 (c.loop-held.invariant.passed first begun)
    (c.in_err-fill.ensures.long (let same = c.from_residual.ensures in search rules))

pub pass_on-requires-clause-passed : goal.pass_on-requires-clause-passed
pass_on-requires-clause-passed g c = (
  c.requires.begun.0,
  g.S.Source.remaining c.fill.new.source,
  g.W.Write.contents c.args.out.now,
  g.W.Write.contents c.loop-held.out,
  passed_more c.requires.begun.0 (g.S.Source.remaining c.loop-held.file) (g.S.Source.remaining c.fill.new.source)
      (g.W.Write.contents c.args.out.now) (g.W.Write.contents c.loop-held.out) c.loop-held.held c.fill.new.self c.loop-held.passing
      c.in_ok-fill.ensures.read.0 (c.loop-held.invariant.passed c.requires.begun.0 c.requires.begun.1) c.in_ok-fill.ensures.read.1,
)

pub loop-held-preserved : goal.loop-held-preserved
loop-held-preserved g c = record {
  passed = λ first begun. c.in_ok-passing.ensures.passed first (g.S.Source.remaining c.fill.new.source)
      (g.W.Write.contents c.args.out.now)
      (passed_more first (g.S.Source.remaining c.loop-held.file) (g.S.Source.remaining c.fill.new.source)
      (g.W.Write.contents c.args.out.now) (g.W.Write.contents c.loop-held.out) c.loop-held.held c.fill.new.self c.loop-held.passing
      c.in_ok-fill.ensures.read.0 (c.loop-held.invariant.passed first begun) c.in_ok-fill.ensures.read.1);
  few = subst (λ (k : ℕ). k ≤ 4294967295) (sym c.in_ok-passing.ensures.total) c.in_ok-fill.ensures.few;
  faults = search rules;
}

pub finish-requires-clause-passed : goal.finish-requires-clause-passed
finish-requires-clause-passed g c = (
  c.requires.begun.0,
  g.S.Source.remaining c.fill.new.source,
  g.W.Write.contents c.args.out.now,
  g.W.Write.contents c.loop-held.out,
  passed_more c.requires.begun.0 (g.S.Source.remaining c.loop-held.file) (g.S.Source.remaining c.fill.new.source)
      (g.W.Write.contents c.args.out.now) (g.W.Write.contents c.loop-held.out) c.loop-held.held c.fill.new.self c.loop-held.passing
      c.in_ok-fill.ensures.read.0 (c.loop-held.invariant.passed c.requires.begun.0 c.requires.begun.1) c.in_ok-fill.ensures.read.1,
)

pub returns-clause-taken : goal.returns-clause-taken
returns-clause-taken g c =
    IfOk-weaker c.finish.result _ _ (λ taken by first begun. by first (g.S.Source.remaining c.fill.new.source)
    (g.W.Write.contents c.args.out.now)
    (passed_more first (g.S.Source.remaining c.loop-held.file) (g.S.Source.remaining c.fill.new.source)
    (g.W.Write.contents c.args.out.now) (g.W.Write.contents c.loop-held.out) c.loop-held.held c.fill.new.self c.loop-held.passing
    c.in_ok-fill.ensures.read.0 (c.loop-held.invariant.passed first begun) c.in_ok-fill.ensures.read.1)
    (c.in_ok-fill.ensures.read.3 c.if-branch.false)) c.finish.ensures.taken
