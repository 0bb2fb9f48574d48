use Rattle.std.proofs.Common.{◌≡◌, ◌≤◌, ◌+◌, ℕ, length, drop, sym, ap, subst, ◌∙◌, arith}
use Rattle.std.proofs.lemmas.List.{length-map}
use Rattle.x12_segs.specs.Words.{elements_of}
use Rattle.guide_tree.specs.Words.{or_else}
use Rattle.guide_fast.specs.Children.{fit_listed, until}
use Rattle.guide_fast.specs.Keys.{begin_key, begin_keys, begin_reach}
use Rattle.guide_fast.proofs.Keyed.{reached_behind}
use Rattle.guide_fast.proofs.LookedUp.{fit_told, child_or, none_told, all_told, one_more, found_sooner, none_sooner}
use Rattle.guide_fast.proofs.children.start_looked_up.Goals.{in-Some, in_default}
use Rattle.guide_fast.proofs.children.start_looked_up.Goals as goal

pub loop-position-init : goal.loop-position-init
loop-position-init c =
    let ns = c.args.nodes.now in
    let none = none_told (elements_of c.args.seg.now) c.args.from (drop c.args.from ns) in
    (sym none, sym (ap (child_or (length ns)) none), tt, tt)

pub loop-position-preserved : goal.loop-position-preserved
loop-position-preserved c =
    let ns = c.args.nodes.now in
    let s = elements_of c.args.seg.now in
    let n = c.loop-position.position in
    let from = c.args.from in
    let found = fit_listed s ns (until c.loop-position.end c.places_from-children.result.now) in
    let before = fit_told s n from (drop from ns) in
    let all = fit_told s (n + 1) from (drop from ns) in
    let h : from ≤ length (begin_keys ns) = subst (λ m. from ≤ m) (sym (length-map ns begin_key)) c.requires.from in
    let more : or_else found before ≡ all =
    one_more s ns n from c.loop-position.end c.text_at.result.now c.places_from-children.result.now c.requires.from c.text_at.ensures
    (c.places_from-children.ensures c.text_at.result.now (begin_keys ns) h (c.places.ensures (begin_keys ns) c.requires.index))
    c.loop-position.invariant.1 in
    elim c.match-first_fitting.branch [
      | in-Some w ↦ found_sooner (length ns) c.first_fitting.result c.match-first_fitting.first w.in-Some.turn c.match-first_fitting.end
          found before all w.in-Some.is w.first-is w.end-is c.first_fitting.ensures.turn c.first_fitting.ensures.depth
          c.first_fitting.ensures.uses more
      | in_default w ↦ none_sooner (length ns) c.first_fitting.result c.loop-position.first c.match-first_fitting.first
          c.loop-position.end c.match-first_fitting.end found before all w.in_default.not-Some w.first-is w.end-is
          c.first_fitting.ensures.turn more c.loop-position.invariant
    ]

pub returns-clause-turn : goal.returns-clause-turn
returns-clause-turn c =
    let ns = c.args.nodes.now in
    let s = elements_of c.args.seg.now in
    let all : c.loop-position.position ≡ c.args.reach = omega (arith, c.loop-position-test.false, c.loop-position.auto.position-end) in
    c.loop-position.invariant.0 ∙ ap (λ (n : ℕ). fit_told s n c.args.from (drop c.args.from ns)) all
    ∙ all_told s c.args.reach c.args.from (drop c.args.from ns) (reached_behind begin_reach c.args.reach c.args.from ns c.requires.reach)
