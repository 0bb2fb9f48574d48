use Rattle.std.proofs.Common.{◌≡◌, ◌≤◌, ◌++◌, ℕ, List, arith, sym, subst}
use Rattle.std.proofs.lemmas.Result.{IfOk-weaker}
use Rattle.isa_scan.specs.declared.heads.HeadAt.{HeadAt}
use Rattle.env_index.specs.Shares.{IsReadAt, ShareValue, joined}
use Rattle.env_index.proofs.HeadShares.{heads_later, share_of}
use Rattle.env_index.proofs.Sharing.{shares_joined}
use Rattle.env_index.proofs.by_threads.join_shares.Goals as goal

pub read_share-requires : goal.read_share-requires
read_share-requires c =
    let text : List ℕ = c.args.text.now in
    let cut : ℕ = c.args.cut in
    let high : List HeadAt = c.args.high.now in
    let reach : ℕ = c.end-reach.result in
    share_of text cut reach high high c.args.marks.now c.requires.high (omega (arith, c.end-reach.ensures, c.requires.front))
    (heads_later text cut reach high (omega (arith, c.if-reach-cut.false)) c.requires.high.listed)

pub returns-then-reach-cut : goal.returns-then-reach-cut
returns-then-reach-cut c from low read none =
    let text : List ℕ = c.args.text.now in
    let heads : List HeadAt = low ++ c.args.high.now in
    let front : ShareValue = c.args.front in
    let back : ShareValue = c.args.back in
    IfOk-weaker c.both_shares.result (λ share. share ≡ joined text front c.args.cut back) (λ share. IsReadAt text from heads share)
    (λ share is. subst (IsReadAt text from heads) (sym is)
    (shares_joined text from c.args.cut low c.args.high.now front back read c.requires.back
    (omega (arith, c.end-reach.ensures, c.if-reach-cut.true)) none)) c.both_shares.ensures

pub returns : goal.returns
returns c from low read none =
    let text : List ℕ = c.args.text.now in
    let heads : List HeadAt = low ++ c.args.high.now in
    let front : ShareValue = c.args.front in
    let again : ShareValue = c.in_ok-again.again in
    let reach : ℕ = c.end-reach.result in
    IfOk-weaker c.both_shares-2.result (λ share. share ≡ joined text front reach again) (λ share. IsReadAt text from heads share)
    (λ share is. subst (IsReadAt text from heads) (sym is)
    (shares_joined text from reach low c.args.high.now front again read c.in_ok-again.ensures
    (omega (arith, c.end-reach.ensures)) (λ q late high. absurd (omega (arith, late, high, c.end-reach.ensures))))) c.both_shares-2.ensures
