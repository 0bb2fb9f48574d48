use Rattle.std.proofs.Common.{◌≡◌, ◌+◌, ◌++◌, [], take, drop, ℕ, List, Option, None, Some, get_or, refl, ap, subst, ◌∙◌}
use Rattle.std.specs.Cmp.Lexicographic.{slice_cmp}
use Rattle.std.specs.Ordering.{nat_cmp}
use Rattle.std.specs.Prelude.{slice_get}
use Rattle.std.proofs.lemmas.Option.{slice_get_read}
use Rattle.hub_kinds.specs.declared.interchange.InterchangeFault.{InterchangeFault}
use Rattle.env_index.specs.Words.{IndexEntry, InterchangeEntry}
use Rattle.set_answers.specs.Known.{Knows}
use Rattle.set_answers.specs.Settled.{fault_alone, faults_with, kept_keys, interchange_key_of, number_key}
use Rattle.set_answers.proofs.Growing.{mapped_at}
use Rattle.set_answers.proofs.Numbered.{faults_step, keys_step}
use Rattle.set_answers.proofs.settled.faults_behind.Goals as goal

pub loop-i-preserved : goal.loop-i-preserved
loop-i-preserved c setup are =
    let entries : List IndexEntry = c.interchanges-entries.result.now in
    let i : ℕ = c.loop-i.i in
    let e : IndexEntry = c.index-entries-i.result in
    let there : slice_get entries i ≡ Some e =
    slice_get_read entries _ i e refl c.loop-i-test.true c.index-entries-i.is in
    let alone : Option InterchangeFault = get_or c.args.alone.now i None in
    let key : List ℕ = number_key c.interchange-interchange.result.now.header in
    let named : key ≡ interchange_key_of e = ap (λ (x : InterchangeEntry). number_key x.header) c.interchange-interchange.ensures.value in
    let by_entry : alone ≡ fault_alone setup e = mapped_at (fault_alone setup) entries c.args.alone.now i e None are there in
    let was = c.loop-i.invariant setup are in
    let known = was.1 in (
      λ before seen.
          ap (λ (fs : List (Option InterchangeFault)). fs ++ faults_with setup
          (before ++ kept_keys setup (take (i + 1) entries)) (drop (i + 1) entries)) c.in_ok-push.ensures.items
          ∙ faults_step setup before entries i e there alone key by_entry named c.loop-i.faults.items
          c.in_ok-fault_behind.field-0 (c.in_ok-fault_behind.ensures.fault before _ seen known)
          ∙ was.0 before seen,
      subst (Knows (slice_cmp nat_cmp) c.fault_behind.new.own)
          (keys_step setup [] entries i e there alone key by_entry named)
          (c.in_ok-fault_behind.ensures.known _ known),
    )
