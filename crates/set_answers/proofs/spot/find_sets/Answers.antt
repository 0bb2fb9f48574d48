use Rattle.std.proofs.Common.{◌≡◌, ℕ, List, ◌∷◌, [], ◌++◌, take, refl, sym, ap, subst, ◌∙◌, arith}
use Rattle.std.proofs.lemmas.List.{take_all}
use Rattle.x12_segs.specs.Words.{IsSetSpan}
use Rattle.env_index.specs.Words.{group_elements, span_of}
use Rattle.env_index.specs.declared.entry.SetEnvelope.{SetEnvelope}
use Rattle.set_answers.specs.Answers.{controls_of}
use Rattle.set_answers.specs.Asked.{set_asked, sets_asked}
use Rattle.set_answers.specs.Known.{KnowsLent}
use Rattle.set_answers.specs.Seen.{is_among}
use Rattle.set_answers.proofs.AlsoFound.{both_found, none_found, one_found, same_found}
use Rattle.set_answers.proofs.Among.{lent_is_there, lent_was_there}
use Rattle.set_answers.proofs.Asking.{sets_up_to}
use Rattle.set_answers.proofs.Growing.{at_index, controls_more}
use Rattle.set_answers.proofs.spot.find_sets.Goals as goal

pub loop-index-init : goal.loop-index-init
loop-index-init c = record { found = none_found c.args.found.now.items; known = ([], c.new-seen.ensures, refl) }

pub find_set-requires : goal.find_set-requires
find_set-requires c =
    at_index (λ (s : SetEnvelope). IsSetSpan c.args.sent.now.text (span_of c.args.sent.now.delims s)) c.args.group.now.sets
    c.loop-index.index c.set-set.result c.set-set.ensures c.requires

pub loop-index-preserved : goal.loop-index-preserved
loop-index-preserved c =
    let sent = c.args.sent.now in
    let header = c.args.group.now.header in
    let sets : List SetEnvelope = c.args.group.now.sets in
    let i : ℕ = c.loop-index.index in
    let set : SetEnvelope = c.set-set.result in
    let earlier = lent_was_there c.loop-index.seen c.control.result (controls_of (take i sets)) c.in_ok-earlier.earlier
    c.in_ok-earlier.ensures.earlier c.loop-index.invariant.known
    ∙ ap (λ (n : List ℕ). is_among n (controls_of (take i sets))) c.control.ensures in
    let elements = c.group_elements-header.ensures ∙ ap group_elements c.header.ensures in
    let here = c.in_ok-finding.ensures header (take i sets) elements earlier in
    let one = one_found (set_asked sent header (take i sets) set) c.in_ok-finding.finding c.loop-index.found.items c.push.new.self.items
    c.in_ok-push.ensures.items here in
    let both = both_found (sets_asked sent header [] (take i sets)) (set_asked sent header (take i sets) set ∷ [])
    c.args.found.now.items c.loop-index.found.items c.push.new.self.items c.loop-index.invariant.found one in
    record {
      found = same_found _ _ c.args.found.now.items c.push.new.self.items (sets_up_to sent header sets i set c.set-set.ensures) both;
      known = subst (λ (ns : List (List ℕ)). KnowsLent c.add.new.self ns)
          (ap (λ (n : List ℕ). controls_of (take i sets) ++ n ∷ []) c.control.ensures ∙ sym (controls_more sets i set c.set-set.ensures))
          (lent_is_there c.loop-index.seen c.add.new.self c.control.result (controls_of (take i sets)) c.in_ok-earlier.ensures.known
          c.loop-index.invariant.known);
    }

pub returns : goal.returns
returns c =
    let sets : List SetEnvelope = c.args.group.now.sets in
    let all : take c.loop-index.index sets ≡ sets =
    take_all c.loop-index.index sets (omega (arith, c.loop-index-test.false, c.set_count-index-end.ensures)) in
    same_found _ _ c.args.found.now.items c.loop-index.found.items (ap (sets_asked c.args.sent.now c.args.group.now.header []) all)
    c.loop-index.invariant.found
