use Rattle.std.proofs.Common.{[], ◌∷◌, ◌∙◌}
use Rattle.std.proofs.lemmas.Result.{on_ok_weaker}
use Rattle.set_answers.specs.AlsoFound.{AreAlsoFound}
use Rattle.set_answers.specs.Asked.{group_asked, sets_asked}
use Rattle.set_answers.proofs.AlsoFound.{both_found, one_found}
use Rattle.set_answers.proofs.spot.find_group.Goals as goal

pub returns : goal.returns
returns c =
    let sent = c.args.sent.now in
    let group = c.args.group.now in
    let old = c.args.found.now.items in
    let own = c.push.new.self.items in
    let new = c.find_sets.new.found.items in
    on_ok_weaker c.find_sets.result
    (λ (sets : AreAlsoFound (sets_asked sent group.header [] group.sets) own new) before earlier.
    both_found (group_asked before group ∷ []) (sets_asked sent group.header [] group.sets) old own new
    (one_found (group_asked before group) c.finding_of.result old own c.in_ok-push.ensures.items
    (record { earlier = c.finding_of.ensures.earlier ∙ earlier; set = tt })) sets)
    c.find_sets.ensures
