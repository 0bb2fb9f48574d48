use Rattle.std.proofs.Common.{◌≡◌, ℕ, List, Option, length, ap, sym, subst, ◌∙◌}
use Rattle.std.specs.List.{AllZip}
use Rattle.hub_kinds.specs.declared.interchange.InterchangeFault.{InterchangeFault}
use Rattle.env_index.specs.Words.{IndexEntry, IndexValue, settled}
use Rattle.number_register.specs.SeenNumbers.{HaveSeen}
use Rattle.partner_setup.specs.Setup.{SetupValue}
use Rattle.set_answers.specs.Asked.{IsFound, asked_of}
use Rattle.set_answers.specs.Settled.{faults_with, senders_of}
use Rattle.set_findings.specs.Alone.{AreSettledBy, faults_alone, index_alone}
use Rattle.set_findings.specs.Findings.{AreFound}
use Rattle.set_findings.proofs.Settling.{alone_long, senders_kept, settled_by_numbers, settled_long, settled_twice, with_long}
use Rattle.set_findings.proofs.found.find_out_after.Goals as goal

pub worked_out-requires-clause-settled : goal.worked_out-requires-clause-settled
worked_out-requires-clause-settled g c κs within = (
  c.args.text.now,
  c.in_ok-index.index,
  c.in_ok-index.ensures,
  c.requires.few,
  c.in-Ok.ensures.index ∙ ap (λ (s : SetupValue). index_alone s c.in_ok-index.index) (sym c.requires.guides),
)

pub worked_out-requires-clause-senders : goal.worked_out-requires-clause-senders
worked_out-requires-clause-senders g c κs within =
    let plain : IndexValue = c.in_ok-index.index in
    let setup = c.args.setup.now in
    c.as_slice.ensures.value ∙ c.in-Ok.ensures.senders
    ∙ sym (ap (λ (i : IndexValue). senders_of setup i.entries) c.in-Ok.ensures.index
    ∙ senders_kept setup plain.entries (faults_alone setup plain.entries))
    ∙ ap (λ (s : SetupValue). senders_of s c.settle_after.new.index.entries) (sym c.requires.guides)

pub settle-requires : goal.settle-requires
settle-requires g c =
    let plain : IndexValue = c.in_ok-index.index in
    let setup = c.args.setup.now in
    let faults = faults_with setup c.requires.seen.0 plain.entries in
    let told : c.as_slice-3.result.now ≡ faults
    = c.as_slice-3.ensures.value ∙ c.in-Ok.ensures.faults c.requires.seen.0 c.requires.seen.1 in
    ap length told ∙ with_long setup c.requires.seen.0 plain.entries
    ∙ sym (ap (λ (i : IndexValue). length i.entries) c.in-Ok.ensures.index
    ∙ settled_long plain.entries (faults_alone setup plain.entries) (alone_long setup plain.entries))

pub returns : goal.returns
returns g c =
    let plain : IndexValue = c.in_ok-index.index in
    let setup = c.args.setup.now in
    let of : c.args.guides.now ≡ setup = c.requires.guides in
    let text : List ℕ = c.args.text.now in
    let before = c.requires.seen.0 in
    let told : (b : List (List ℕ)) → HaveSeen c.args.seen b → c.in-Ok.settled.faults.items ≡ faults_with setup b plain.entries
    = c.in-Ok.ensures.faults in
    let alone : c.settle_after.new.index ≡ index_alone setup plain = c.in-Ok.ensures.index in
    let index : (b : List (List ℕ)) → HaveSeen c.args.seen b → c.settle.new.self ≡ settled plain (faults_with setup b plain.entries)
    = λ b seen. c.settle.ensures ∙ ap (λ (i : IndexValue). settled i c.as_slice-3.result.now) alone
    ∙ ap (settled (index_alone setup plain)) (c.as_slice-3.ensures.value ∙ told b seen)
    ∙ settled_twice setup plain (faults_with setup b plain.entries) (with_long setup b plain.entries) in
    let entries : c.settle.new.self.entries ≡ (settled plain (faults_with setup before plain.entries)).entries
    = ap (λ (i : IndexValue). i.entries) (index before c.requires.seen.1) in
    let faults : List (Option InterchangeFault) = c.as_slice-2.result.now in
    let same : faults ≡ faults_with setup before plain.entries = c.as_slice-2.ensures.value ∙ told before c.requires.seen.1 in
    let by : AreSettledBy setup plain.entries faults
    = subst (AreSettledBy setup plain.entries) (sym same) (settled_by_numbers setup before plain.entries) in
    let found : AreFound setup plain faults c.in_ok-findings.findings.items
    = subst (λ (s : SetupValue). AreFound s plain faults c.in_ok-findings.findings.items) of
    (c.in_ok-findings.ensures text plain c.in_ok-index.ensures (alone ∙ ap (λ (s : SetupValue). index_alone s plain) (sym of))
    (subst (λ (s : SetupValue). AreSettledBy s plain.entries faults) (sym of) by)) in
    record {
      plain = plain;
      read = c.in_ok-index.ensures;
      index = index;
      rows = record {
        senders = c.in-Ok.ensures.senders
            ∙ sym (ap (senders_of setup) entries ∙ senders_kept setup plain.entries (faults_with setup before plain.entries));
        findings =
            subst (λ (es : List IndexEntry). AllZip IsFound (asked_of text setup es) c.in_ok-findings.findings.items)
            (ap (λ (fs : List (Option InterchangeFault)). (settled plain fs).entries) same ∙ sym entries)
            (subst (λ (t : List ℕ). AllZip IsFound (asked_of t setup (settled plain faults).entries) c.in_ok-findings.findings.items)
            c.in_ok-index.ensures.same found);
      };
      seen = c.in-Ok.ensures.numbers;
    }
