use Rattle.std.proofs.Common.{◌≡◌, ◌++◌, [], ℕ, true, List, refl, sym, ap, subst, ◌∙◌, arith, rules}
use Rattle.std.specs.List.{AllZip}
use Rattle.std.proofs.lemmas.Result.{on_ok_weaker}
use Rattle.x12_bytes.specs.Header.{header_delims}
use Rattle.x12_bytes.specs.declared.delims.Delims.{Delims}
use Rattle.env_index.specs.Words.{GroupEntry, InterchangeEntry}
use Rattle.partner_setup.specs.Setup.{SetupValue}
use Rattle.set_answers.specs.Answers.{SentValue}
use Rattle.set_answers.specs.Asked.{Asked, IsFound, groups_asked, has_places}
use Rattle.set_answers.specs.CheckedText.{sent_by}
use Rattle.set_answers.specs.Counted.{asked_in_groups}
use Rattle.set_answers.proofs.Asking.{groups_count}
use Rattle.set_answers.proofs.Taking.{behind, behind_own, enough}
use Rattle.set_answers.proofs.found.next_answers.Goals as goal

under : (text : List ℕ) → SetupValue → (sender : ℕ) → Delims → SentValue
under text setup sender delims = record { text = text; setup = setup; sender = sender; delims = delims }

pub findings_in-requires : goal.findings_in-requires
findings_in-requires c =
    let e = c.args.entry.now in
    let sent = sent_by c.args.text.now c.args.setup.now c.in-Some-Duplicate-Some.field-0-1 e in
    let groups : List GroupEntry = e.interchange.content.groups in
    let has : has_places e.fault ≡ true = search rules in
    let left = behind_own c.args.text.now c.args.setup.now e e.fault c.args.sender c.in-Some-Duplicate-Some.field-0-1 c.requires.0
    c.args.findings.now _ _ refl has c.in-Some-Duplicate-Some.is-1
    c.take-in-Some-Duplicate-Some.ensures.first c.requires.1 in
    omega (
      arith,
      ap (λ (i : InterchangeEntry). asked_in_groups i.content.groups) c.interchange-interchange.ensures.value,
      groups_count sent [] groups,
      enough (groups_asked sent [] groups) c.requires.0 c.take-in-Some-Duplicate-Some.new.self left,
      c.take-in-Some-Duplicate-Some.ensures.few,
    )

pub pass-requires : goal.pass-requires
pass-requires c =
    let e = c.args.entry.now in
    let sent = sent_by c.args.text.now c.args.setup.now c.in-Some-Duplicate-Some.field-0-1 e in
    let groups : List GroupEntry = e.interchange.content.groups in
    let has : has_places e.fault ≡ true = search rules in
    let left = behind_own c.args.text.now c.args.setup.now e e.fault c.args.sender c.in-Some-Duplicate-Some.field-0-1 c.requires.0
    c.args.findings.now _ _ refl has c.in-Some-Duplicate-Some.is-1
    c.take-in-Some-Duplicate-Some.ensures.first c.requires.1 in
    omega (
      arith,
      c.findings_in.ensures,
      ap (λ (i : InterchangeEntry). asked_in_groups i.content.groups) c.interchange-interchange.ensures.value,
      groups_count sent [] groups,
      enough (groups_asked sent [] groups) c.requires.0 c.take-in-Some-Duplicate-Some.new.self left,
    )

pub returns-in-Some-Duplicate-Some-clause-rest : goal.returns-in-Some-Duplicate-Some-clause-rest
returns-in-Some-Duplicate-Some-clause-rest c more h =
    let e = c.args.entry.now in
    let sent = sent_by c.args.text.now c.args.setup.now c.in-Some-Duplicate-Some.field-0-1 e in
    let groups : List GroupEntry = e.interchange.content.groups in
    let has : has_places e.fault ≡ true = search rules in
    let counted = c.findings_in.ensures
    ∙ ap (λ (i : InterchangeEntry). asked_in_groups i.content.groups) c.interchange-interchange.ensures.value
    ∙ sym (groups_count sent [] groups) in
    behind c.findings_in.result (groups_asked sent [] groups) more c.take-in-Some-Duplicate-Some.new.self c.pass.new.self counted
    c.pass.ensures
    (behind_own c.args.text.now c.args.setup.now e e.fault c.args.sender c.in-Some-Duplicate-Some.field-0-1 more c.args.findings.now _ _
    refl has c.in-Some-Duplicate-Some.is-1 c.take-in-Some-Duplicate-Some.ensures.first h)

pub returns-in-None-Some-clause-rest : goal.returns-in-None-Some-clause-rest
unfolding under
returns-in-None-Some-clause-rest c =
    let e = c.args.entry.now in
    let text : List ℕ = c.args.text.now in
    let setup = c.args.setup.now in
    let s : ℕ = c.in-None-Some.sender in
    let value = c.interchange-interchange.ensures.value in
    let delims : c.delims.result ≡ header_delims e.interchange.header = c.delims.ensures.value
    ∙ ap header_delims (c.header.ensures ∙ ap (λ (i : InterchangeEntry). i.header) value) in
    let sent : c.new-sent.result ≡ sent_by text setup s e = c.new-sent.ensures ∙ ap (under text setup s) delims in
    let rest = c.take.new.self in
    let new = c.found_groups.new.findings in
    on_ok_weaker c.found_groups.result
    (λ (answered : (more : List Asked) → AllZip IsFound (groups_asked c.new-sent.result []
    c.interchange-interchange.result.now.content.groups ++ more) rest → AllZip IsFound more new) more h.
    answered more (subst (λ (i : InterchangeEntry). AllZip IsFound (groups_asked c.new-sent.result [] i.content.groups ++ more) rest)
    (sym value) (subst (λ (t : SentValue). AllZip IsFound (groups_asked t [] e.interchange.content.groups ++ more) rest) (sym sent)
    (behind_own text setup e c.fault.result c.args.sender s more c.args.findings.now c.take.result rest c.fault.ensures
    (ap has_places c.in-None-Some.is-0) c.in-None-Some.is-1 c.take.ensures.first h))))
    c.found_groups.ensures.rest
