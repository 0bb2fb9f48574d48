use Rattle.std.proofs.Common.{◌≡◌, ◌+◌, ◌≤◌, ◌<◌, ◌++◌, ℕ, not, List, [], ◌∷◌, length, drop, take, get_or, None, true, arith, refl, rules}
use Rattle.std.proofs.Common.{sym, ap, subst, ◌∙◌}
use Rattle.std.specs.Prelude.{count_by, slice_range}
use Rattle.std.proofs.lemmas.List.{take_all}
use Rattle.x12_bytes.specs.HeaderTest.{is_head}
use Rattle.isa_scan.specs.declared.heads.HeadAt.{HeadAt}
use Rattle.env_index.specs.Index.{IndexEntry, IsNextIn}
use Rattle.env_index.specs.Interchange.{InterchangeEntry}
use Rattle.env_index.specs.Shares.{IsReadAt, ShareValue}
use Rattle.env_index.proofs.Few.{are_few}
use Rattle.env_index.proofs.HeadShares.{first_left}
use Rattle.env_index.proofs.Sharing.{others, share_begins, share_reads_at, share_skips_at}
use Rattle.env_index.proofs.by_marks.read_share.Goals as goal

pub loop-index-init : goal.loop-index-init
loop-index-init c =
    let none : c.new-interchanges.result.items ≡ [] = search rules in
    (share_begins c.args.text.now c.args.from c.new-interchanges.result.items none c.requires.within, c.requires.listed)

pub loop-index-preserved-then-start-at : goal.loop-index-preserved-then-start-at
loop-index-preserved-then-start-at c =
    let text : List ℕ = c.args.text.now in
    let heads : List HeadAt = c.args.heads.now in
    let i : ℕ = c.loop-index.index in
    let first = first_left text c.loop-index.at heads i c.loop-index-test.true c.loop-index.invariant.1 in (
      share_skips_at text c.args.from heads i _ c.loop-index-test.true c.if-start-at.true c.loop-index.invariant.0,
      first.left c.loop-index.at c.if-start-at.true,
    )

pub read_marked-requires-clause-head : goal.read_marked-requires-clause-head
read_marked-requires-clause-head c =
    (first_left c.args.text.now c.loop-index.at c.args.heads.now c.loop-index.index c.loop-index-test.true c.loop-index.invariant.1).head

pub invariant_of-push : goal.invariant_of-push
invariant_of-push c =
    let text : List ℕ = c.args.text.now in
    let x : InterchangeEntry = c.in_ok-interchange.interchange in
    let first = first_left text c.loop-index.at c.args.heads.now c.loop-index.index c.loop-index-test.true c.loop-index.invariant.1 in
    let start = c.in_ok-interchange.ensures.start in
    are_few text x c.in_ok-interchange.ensures.read (ap (is_head text) start ∙ first.head) c.requires.few

pub loop-index-preserved : goal.loop-index-preserved
loop-index-preserved c =
    let text : List ℕ = c.args.text.now in
    let heads : List HeadAt = c.args.heads.now in
    let i : ℕ = c.loop-index.index in
    let at : ℕ = c.loop-index.at in
    let x : InterchangeEntry = c.in_ok-interchange.interchange in
    let first = first_left text at heads i c.loop-index-test.true c.loop-index.invariant.1 in
    let start = c.in_ok-interchange.ensures.start in
    let behind = c.in_ok-interchange.ensures.behind in
    let next : IsNextIn text at x = record {
      next = record {
        behind = omega (arith, start, c.if-start-at.false);
        head = ap (is_head text) start ∙ first.head;
        least = λ q low high. first.least q low (omega (arith, high, start));
      };
      read = c.in_ok-interchange.ensures.read;
    } in
    let end : c.end-at.result ≡ x.end = c.end-at.ensures in
    let longer : x.start < x.end = omega (arith, start, behind) in
    let counted = c.count_others-outside.ensures ∙ ap (λ (n : ℕ). others (slice_range text at n)) (sym start) in (
      share_reads_at text c.args.from heads i _ _ x c.loop-index-test.true c.loop-index.invariant.0 next (sym start) longer
          c.in_ok-interchange.ensures.within c.in_ok-push.ensures.items (ap (λ (n : ℕ). c.loop-index.outside + n) counted) end,
      first.left c.end-at.result (omega (arith, start, behind, end)),
    )

pub returns : goal.returns
returns c =
    let share : ShareValue =
    record { entries = c.loop-index.interchanges.items; outside = c.loop-index.outside; end = c.loop-index.at } in
    subst (λ (hs : List HeadAt). IsReadAt c.args.text.now c.args.from hs share)
    (take_all c.loop-index.index c.args.heads.now (omega (arith, c.loop-index-test.false))) c.loop-index.invariant.0
