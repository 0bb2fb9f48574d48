use Rattle.std.proofs.Common.{◌≡◌, ◌∙◌, List, ap, map, rules, sym, true}
use Rattle.std.specs.List.{list_all, list_any}
use Rattle.day_files.specs.Again.{set_in}
use Rattle.day_files.specs.Members.{asked_again, goes_in, is_whole}
use Rattle.day_files.specs.declared.member.Member.{Member}
use Rattle.night_record.specs.Again.{again_text}
use Rattle.hub_night.proofs.Days.{day_is}
use Rattle.hub_night.proofs.day.day_of.Goals as goal

pub returns-clause-judged : goal.returns-clause-judged
returns-clause-judged g c =
    let members : List Member = c.in_ok-members.members.items in
    let goes : c.some_goes_in.result ≡ true = search rules in
    let some : list_any goes_in members ≡ true = sym (c.some_goes_in.ensures ∙ ap (list_any goes_in) c.as_slice-2.ensures.value) ∙ goes in
    let asked = c.in_ok-again.ensures
    ∙ ap (λ (l : List Member). again_text (map set_in (asked_again l))) (c.as_slice-3.ensures.value ∙ sym c.as_slice.ensures.value) in
    day_is c.args.setting.now c.args.older.now c.args.papers.now c.args.files.now members c.as_slice.result.now _
    c.in_ok-again.again.items c.in_ok-joined.joined.input.items c.in_ok-joined.joined.lines.items c.as_slice.ensures.value
    c.in_ok-members.ensures.members some (c.from_vec.ensures ∙ c.requires.listing) c.from_vec-2.ensures asked c.from_vec-3.ensures
    c.in_ok-joined.ensures.input c.in_ok-joined.ensures.alone c.from_vec-lines.ensures c.in_ok-joined.ensures.lines
    (c.are_whole.ensures ∙ ap (list_all is_whole) c.as_slice-4.ensures.value)
