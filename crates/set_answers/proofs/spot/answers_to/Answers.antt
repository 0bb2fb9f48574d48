use Rattle.std.proofs.Common.{◌++◌, [], List, sym, subst}
use Rattle.std.specs.List.{AllZip}
use Rattle.std.proofs.lemmas.List.{append-nil}
use Rattle.set_check.specs.declared.finding.Finding.{Finding}
use Rattle.set_answers.specs.Asked.{Asked, IsFound, entry_asked_by, has_places}
use Rattle.set_answers.proofs.spot.answers_to.Goals as goal

pub next_answers-requires : goal.next_answers-requires
next_answers-requires c =
    let e = c.args.entry.now in
    let asked : List Asked = entry_asked_by c.args.text.now c.args.setup.now e (has_places e.fault) c.args.sender in
    let none = subst (λ (fs : List Finding). AllZip IsFound [] fs) (sym c.new-found.ensures.items) tt in
    let found = c.in_ok-find_interchange.ensures [] none in (
      [],
      subst (λ (fs : List Finding). AllZip IsFound (asked ++ []) fs) (sym c.new-findings.ensures)
          (subst (λ (l : List Asked). AllZip IsFound l c.find_interchange.new.found.items) (sym (append-nil asked)) found),
    )
