use Rattle.std.proofs.Common.{◌++◌, ◌∷◌, [], List, sym, ◌∙◌, arith}
use Rattle.env_index.specs.Words.{GroupEntry}
use Rattle.set_answers.specs.Asked.{Asked, groups_asked, sets_asked}
use Rattle.set_answers.proofs.Asking.{sets_count}
use Rattle.set_answers.proofs.Taking.{behind, behind_first, enough, first_group}
use Rattle.set_answers.proofs.found.found_group.Goals as goal

pub pass-requires : goal.pass-requires
pass-requires c =
    let sent = c.args.sent.now in
    let group : GroupEntry = c.args.group.now in
    let more : List Asked = groups_asked sent (c.requires.0 ++ group ∷ []) c.requires.1 ++ c.requires.2 in
    let left = behind_first _ _ _ _ _ (first_group sent c.requires.0 group c.requires.1 c.requires.2 c.args.findings.now c.requires.3)
    c.take-earlier.ensures.first in
    omega (
      arith,
      c.set_count.ensures,
      sets_count sent group.header [] group.sets,
      enough (sets_asked sent group.header [] group.sets) more c.take-earlier.new.self left,
    )

pub returns-then-is_fa-clause-rest : goal.returns-then-is_fa-clause-rest
returns-then-is_fa-clause-rest c before groups more h =
    let sent = c.args.sent.now in
    let group : GroupEntry = c.args.group.now in
    let left = behind_first _ _ _ _ _ (first_group sent before group groups more c.args.findings.now h) c.take-earlier.ensures.first in
    behind c.set_count.result (sets_asked sent group.header [] group.sets) (groups_asked sent (before ++ group ∷ []) groups ++ more)
    c.take-earlier.new.self c.pass.new.self (c.set_count.ensures ∙ sym (sets_count sent group.header [] group.sets)) c.pass.ensures left
