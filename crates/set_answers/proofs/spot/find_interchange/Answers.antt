use Rattle.std.proofs.Common.{◌≡◌, ◌++◌, ◌∷◌, [], ℕ, Bool, true, List, Option, Some, None, refl, sym, ap, subst, ◌∙◌}
use Rattle.std.specs.Prelude.{is_some}
use Rattle.std.proofs.lemmas.Result.{on_ok_weaker}
use Rattle.hub_kinds.specs.declared.interchange.InterchangeFault.{InterchangeFault}
use Rattle.x12_bytes.specs.Header.{header_delims}
use Rattle.x12_bytes.specs.declared.delims.Delims.{Delims}
use Rattle.env_index.specs.Words.{IndexEntry, InterchangeEntry}
use Rattle.partner_setup.specs.Setup.{SetupValue}
use Rattle.set_check.specs.declared.finding.Finding.{Finding}
use Rattle.set_answers.specs.AlsoFound.{AreAlsoFound}
use Rattle.set_answers.specs.Answers.{SentValue}
use Rattle.set_answers.specs.Asked.{entry_asked_by, groups_asked, has_places, interchange_asked, is_duplicate}
use Rattle.set_answers.specs.CheckedText.{sent_by}
use Rattle.set_answers.proofs.AlsoFound.{both_found, one_found}
use Rattle.set_answers.proofs.spot.find_interchange.Goals as goal

earlier_is : (fault : Option InterchangeFault) → is_some fault ≡ is_duplicate fault
earlier_is None = refl
earlier_is (Some fault) = refl

own_found : (text : List ℕ) (setup : SetupValue) (e : IndexEntry) (sender : Option ℕ) (s : ℕ) (f : Finding) (old own new : List Finding)
    → has_places e.fault ≡ true → sender ≡ Some s → own ≡ old ++ f ∷ [] → f.earlier ≡ is_duplicate e.fault
    → AreAlsoFound (groups_asked (sent_by text setup s e) [] e.interchange.content.groups) own new
    → AreAlsoFound (entry_asked_by text setup e (has_places e.fault) sender) old new
own_found text setup e sender s f old own new has known pushed earlier groups =
    let one = one_found (interchange_asked e) f old own pushed (record { earlier = earlier; set = tt }) in
    let both = both_found (interchange_asked e ∷ []) (groups_asked (sent_by text setup s e) [] e.interchange.content.groups) old own new
    one groups in
    subst (λ (b : Bool). AreAlsoFound (entry_asked_by text setup e b sender) old new) (sym has)
    (subst (λ (o : Option ℕ). AreAlsoFound (entry_asked_by text setup e true o) old new) (sym known) both)

under : (text : List ℕ) → SetupValue → (sender : ℕ) → Delims → SentValue
under text setup sender delims = record { text = text; setup = setup; sender = sender; delims = delims }

pub returns-in_ok-push-in-Some : goal.returns-in_ok-push-in-Some
unfolding under
returns-in_ok-push-in-Some c =
    let e = c.args.entry.now in
    let text : List ℕ = c.args.text.now in
    let setup = c.args.setup.now in
    let s : ℕ = c.in-Some.sender in
    let value = c.interchange-interchange.ensures.value in
    let delims : c.delims.result ≡ header_delims e.interchange.header = c.delims.ensures.value
    ∙ ap header_delims (c.header.ensures ∙ ap (λ (i : InterchangeEntry). i.header) value) in
    let sent : c.new-sent.result ≡ sent_by text setup s e = c.new-sent.ensures ∙ ap (under text setup s) delims in
    let has : has_places e.fault ≡ true = ap has_places (sym c.fault.ensures) ∙ sym c.has_places.ensures ∙ c.if-has_places.true in
    let earlier : c.finding_of.result.earlier ≡ is_duplicate e.fault =
    c.finding_of.ensures.earlier ∙ c.is_some.ensures ∙ ap is_some c.fault-in-Some.ensures ∙ earlier_is e.fault in
    let own : List Finding = c.push.new.self.items in
    let new : List Finding = c.find_groups.new.found.items in
    on_ok_weaker c.find_groups.result
    (λ (groups : AreAlsoFound (groups_asked c.new-sent.result [] c.interchange-interchange.result.now.content.groups) own new).
    own_found text setup e c.args.sender s c.finding_of.result c.args.found.now.items own new has c.in-Some.is
    c.in_ok-push-in-Some.ensures.items earlier
    (subst (λ (t : SentValue). AreAlsoFound (groups_asked t [] e.interchange.content.groups) own new) sent
    (subst (λ (i : InterchangeEntry). AreAlsoFound (groups_asked c.new-sent.result [] i.content.groups) own new) value groups)))
    c.find_groups.ensures
