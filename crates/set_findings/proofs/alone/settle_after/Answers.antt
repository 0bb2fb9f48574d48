use Rattle.std.proofs.Common.{◌≡◌, ◌++◌, ℕ, List, ap, subst, ◌∙◌}
use Rattle.env_index.specs.Words.{IndexValue, settled}
use Rattle.number_register.specs.SeenNumbers.{HaveSeen, interchange_keys}
use Rattle.set_answers.specs.Settled.{kept_keys}
use Rattle.set_findings.specs.Alone.{index_alone}
use Rattle.set_findings.proofs.Seeing.{alone_keys}
use Rattle.set_findings.proofs.alone.settle_after.Goals as goal

pub returns-clause-numbers : goal.returns-clause-numbers
returns-clause-numbers c before seen =
    let setup = c.args.setup.now in
    let index : IndexValue = c.args.index.now in
    let alone : c.settle.new.self ≡ index_alone setup index
    = c.settle.ensures ∙ ap (settled index) (c.as_slice-2.ensures.value ∙ c.in_ok-senders.ensures.faults) in
    let keys : interchange_keys c.settle.new.self.entries ≡ kept_keys setup index.entries
    = ap (λ (i : IndexValue). interchange_keys i.entries) alone ∙ alone_keys setup index.entries in
    subst (λ (ks : List (List ℕ)). HaveSeen c.add.new.self (before ++ ks)) keys (c.in_ok-add.ensures.added before seen)
