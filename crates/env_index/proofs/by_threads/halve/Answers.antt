use Rattle.std.proofs.Common.{◌≡◌, ◌<◌, ◌++◌, ◌/◌, ℕ, List, length, drop, take, arith, ◌∙◌}
use Rattle.std.proofs.lemmas.List.{take-append-drop}
use Rattle.isa_scan.specs.declared.heads.HeadAt.{HeadAt}
use Rattle.env_index.specs.Shares.{AreHeadsFrom}
use Rattle.env_index.proofs.HeadShares.{halved, share_of}
use Rattle.env_index.proofs.by_threads.halve.Goals as goal

pub returns-clause-all : goal.returns-clause-all
returns-clause-all c = (λ i. c.split_at.ensures.front i ++ c.split_at.ensures.back i) ∙ take-append-drop _ c.args.heads.now

pub returns-clause-low : goal.returns-clause-low
returns-clause-low c text from marks share =
    let heads : List HeadAt = c.args.heads.now in
    let halves = halved text from heads c.split_at.result.0.now c.split_at.result.1.now (length heads / 2)
    (omega (arith, c.requires)) c.split_at.ensures.front c.split_at.ensures.back share.listed in
    share_of text from from heads c.split_at.result.0.now marks share share.within halves.front

pub returns-clause-high : goal.returns-clause-high
returns-clause-high c text from marks share =
    let heads : List HeadAt = c.args.heads.now in
    let halves = halved text from heads c.split_at.result.0.now c.split_at.result.1.now (length heads / 2)
    (omega (arith, c.requires)) c.split_at.ensures.front c.split_at.ensures.back share.listed in
    share_of text from _ heads c.split_at.result.1.now marks share halves.within halves.back

pub returns-clause-none : goal.returns-clause-none
returns-clause-none c text from share listed read =
    let heads : List HeadAt = c.args.heads.now in
    let halves = halved text from heads c.split_at.result.0.now c.split_at.result.1.now (length heads / 2)
    (omega (arith, c.requires)) c.split_at.ensures.front c.split_at.ensures.back listed in
    halves.none share read
