use Rattle.std.proofs.Common.{◌≡◌, ℕ, ◌++◌, ◌∷◌, [], List, Option, Some, take, refl, sym, ap, subst, ◌∙◌}
use Rattle.std.specs.Prelude.{slice_get}
use Rattle.std.specs.List.{AllZip}
use Rattle.std.proofs.lemmas.List.{take_all}
use Rattle.std.proofs.lemmas.Option.{slice_get_read}
use Rattle.env_index.specs.Words.{IndexEntry, InterchangeEntry, HasSpans}
use Rattle.partner_setup.specs.Setup.{sender_of}
use Rattle.set_check.specs.declared.finding.Finding.{Finding}
use Rattle.set_answers.specs.Asked.{Asked, IsFound, asked_of, entry_asked_by, has_places}
use Rattle.set_answers.proofs.Asking.{entries_up_to}
use Rattle.set_answers.specs.Settled.{senders_of}
use Rattle.set_answers.proofs.Growing.{at_index, map_snoc, take_one_more}
use Rattle.set_answers.proofs.spot.find_each.Goals as goal

pub find_interchange-requires : goal.find_interchange-requires
find_interchange-requires c =
    let entries : List IndexEntry = c.args.entries.now in
    let there : slice_get entries c.loop-i.i ≡ Some c.index-entries-i.result =
    slice_get_read entries _ c.loop-i.i c.index-entries-i.result refl c.loop-i-test.true c.index-entries-i.is in
    at_index (λ (e : IndexEntry). HasSpans c.args.text.now e.interchange) entries c.loop-i.i c.index-entries-i.result there c.requires

pub loop-i-preserved : goal.loop-i-preserved
loop-i-preserved c =
    let setup = c.args.setup.now in
    let text : List ℕ = c.args.text.now in
    let entries : List IndexEntry = c.args.entries.now in
    let i : ℕ = c.loop-i.i in
    let e : IndexEntry = c.index-entries-i.result in
    let there : slice_get entries i ≡ Some e = slice_get_read entries _ i e refl c.loop-i-test.true c.index-entries-i.is in
    let sender : c.sender_of-sender.result ≡ sender_of setup e.interchange.header = c.sender_of-sender.ensures.sender
    ∙ ap (sender_of setup) (c.header.ensures ∙ ap (λ (x : InterchangeEntry). x.header) c.interchange.ensures.value) in
    let new : List Finding = c.find_interchange.new.found.items in
    let found = subst (λ (s : Option ℕ). AllZip IsFound (asked_of text setup (take i entries)
    ++ entry_asked_by text setup e (has_places e.fault) s) new) sender
    (c.in_ok-find_interchange.ensures (asked_of text setup (take i entries)) c.loop-i.invariant.1) in (
      c.in_ok-push.ensures.items
          ∙ (λ j. c.loop-i.invariant.0 j ++ sender j ∷ [])
          ∙ sym (ap (senders_of setup) (take_one_more entries i e there)
          ∙ map_snoc (λ (x : IndexEntry). sender_of setup x.interchange.header) (take i entries) e),
      subst (λ (l : List Asked). AllZip IsFound l new) (entries_up_to text setup entries i e there) found,
    )

pub returns : goal.returns
returns c = record {
  senders = c.loop-i.invariant.0 ∙ ap (senders_of c.args.setup.now) (take_all c.loop-i.i c.args.entries.now c.loop-i-test.false);
  findings =
      subst (λ (es : List IndexEntry). AllZip IsFound (asked_of c.args.text.now c.args.setup.now es) c.loop-i.findings.items)
      (take_all c.loop-i.i c.args.entries.now c.loop-i-test.false) c.loop-i.invariant.1;
}
