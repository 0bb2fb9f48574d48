use Rattle.std.proofs.Common.{◌≡◌, ◌+◌, ◌≤◌, ◌++◌, ◌∷◌, [], ap, sym, subst, ◌∙◌, List, length, Some, None, refl, arith}
use Rattle.std.proofs.lemmas.List.{length-append}
use Rattle.x12_segs.specs.Words.{elements_of}
use Rattle.guide_tree.specs.Words.{nodes_view, fit_behind}
use Rattle.loop_match.specs.declared.next.Step.{Step}
use Rattle.loop_match.specs.declared.walk.Mark.{Mark}
use Rattle.loop_match.specs.Given.{given_from}
use Rattle.loop_match.specs.Steps.{place_view, last_of, marks_view, turned}
use Rattle.loop_match.proofs.Walking.{Within, within_more, within_push, given_stray, given_turn, room_more, all_wider}
use Rattle.loop_match.proofs.Walking.{gone_stray, gone_turn}
use Rattle.loop_match.proofs.walk.place_one.Goals as goal

pub returns-in_ok-push-in-None-clause-given : goal.returns-in_ok-push-in-None-clause-given
returns-in_ok-push-in-None-clause-given g c body =
    let w = c.args.walk.now in
    let ts = nodes_view (g.N.NextPlace.guide c.args.next.now).nodes.items in
    let s = elements_of c.args.seg.now in
    let m : Mark = record { start = 0; depth = 0; slot = None } in
    ap (λ (ms : List Mark). marks_view w.steps.items ms ++ given_from ts (last_of (place_view w.last.items)) body)
    c.in_ok-push-in-None.ensures.items
    ∙ given_stray ts w.steps.items w.last.items w.marks.items m s body refl
    (c.in-None.ensures.turn ∙ ap (λ (l : List Step). fit_behind s ts (place_view l)) c.as_slice.ensures.value)

pub returns-in_ok-push-in-Some-clause-walk : goal.returns-in_ok-push-in-Some-clause-walk
returns-in_ok-push-in-Some-clause-walk g c =
    let w = c.args.walk.now in
    let steps = w.steps.items in
    let more = c.go.new.last.items in
    let m : Mark =
    record { start = length c.as_slice-start.result.now; depth = length c.as_slice-place.result.now; slot = Some c.in-Some.turn.slot } in
    let all = c.in_ok-extend_from_slice-in-Some.ensures.items ∙ ap (λ (l : List Step). steps ++ l) c.as_slice-place.ensures.value in
    let a = ap length c.as_slice-start.ensures.value in
    let b = ap length c.as_slice-place.ensures.value in
    let e = length-append steps more in
    let fits : m.start + m.depth ≤ length (steps ++ more) = omega (arith, a, b, e) in
    record {
      within = subst (λ (ms : List Mark). Within c.extend_from_slice.new.self.items ms) (sym c.in_ok-push-in-Some.ensures.items)
          (subst (λ (l : List Step). Within l (w.marks.items ++ m ∷ [])) (sym all)
          (within_push (steps ++ more) w.marks.items m fits (within_more steps more w.marks.items c.requires.walk.within)));
      room = room_more c.args.uses w.last.items more c.in-Some.turn c.in-Some.ensures.uses c.requires.walk.room
          c.in_ok-go-in-Some.ensures;
    }

pub returns-in_ok-push-in-Some-clause-given : goal.returns-in_ok-push-in-Some-clause-given
returns-in_ok-push-in-Some-clause-given g c body =
    let w = c.args.walk.now in
    let ts = nodes_view (g.N.NextPlace.guide c.args.next.now).nodes.items in
    let s = elements_of c.args.seg.now in
    let steps = w.steps.items in
    let more = c.go.new.last.items in
    let t = c.in-Some.turn in
    let m : Mark =
    record { start = length c.as_slice-start.result.now; depth = length c.as_slice-place.result.now; slot = Some t.slot } in
    let all = c.in_ok-extend_from_slice-in-Some.ensures.items ∙ ap (λ (l : List Step). steps ++ l) c.as_slice-place.ensures.value in
    ap (λ (l : List Step). marks_view l c.push-in-Some.new.self.items ++ given_from ts (last_of (place_view more)) body) all
    ∙ ap (λ (ms : List Mark). marks_view (steps ++ more) ms ++ given_from ts (last_of (place_view more)) body)
    c.in_ok-push-in-Some.ensures.items
    ∙ given_turn ts steps more w.last.items w.marks.items m t s body c.requires.walk.within (ap length c.as_slice-start.ensures.value)
    (ap length c.as_slice-place.ensures.value) refl
    (subst (λ (l : List Step). Some (turned (place_view l) t) ≡ fit_behind s ts (place_view l)) c.as_slice.ensures.value
    c.in-Some.ensures.turn)
    c.in_ok-go-in-Some.ensures

pub returns-in_ok-push-in-None-clause-gone : goal.returns-in_ok-push-in-None-clause-gone
returns-in_ok-push-in-None-clause-gone g c =
    let s = elements_of c.args.seg.now in
    let ts = nodes_view (g.N.NextPlace.guide c.args.next.now).nodes.items in
    gone_stray ts c.args.walk.now.last.items s
    (c.in-None.ensures.turn ∙ ap (λ (l : List Step). fit_behind s ts (place_view l)) c.as_slice.ensures.value)

pub returns-in_ok-push-in-None-clause-walk : goal.returns-in_ok-push-in-None-clause-walk
returns-in_ok-push-in-None-clause-walk g c =
    let w = c.args.walk.now in
    let m : Mark = record { start = 0; depth = 0; slot = None } in
    record {
      within = subst (λ (ms : List Mark). Within w.steps.items ms) (sym c.in_ok-push-in-None.ensures.items)
          (within_push w.steps.items w.marks.items m (omega arith) c.requires.walk.within);
      room = all_wider c.args.uses w.last.items c.requires.walk.room;
    }

pub returns-in_ok-push-in-Some-clause-gone : goal.returns-in_ok-push-in-Some-clause-gone
returns-in_ok-push-in-Some-clause-gone g c =
    let s = elements_of c.args.seg.now in
    let ts = nodes_view (g.N.NextPlace.guide c.args.next.now).nodes.items in
    let t = c.in-Some.turn in
    gone_turn ts c.args.walk.now.last.items c.go.new.last.items t s
    (subst (λ (l : List Step). Some (turned (place_view l) t) ≡ fit_behind s ts (place_view l)) c.as_slice.ensures.value
    c.in-Some.ensures.turn)
    c.in_ok-go-in-Some.ensures
