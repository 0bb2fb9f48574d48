use Rattle.std.proofs.lemmas.Result.{IfOk-weaker}
use Rattle.std.proofs.Common.{List, ℕ, subst}
use Rattle.hub_night.specs.Night.{IsDraftOf, IsSoundAfter}
use Rattle.hub_night.proofs.night.made_of.Goals as goal

pub returns-clause-made : goal.returns-clause-made
returns-clause-made g c =
    IfOk-weaker c.made_by.result _ _
    (λ made is. record {
      draft = c.in_ok-draft.draft;
      draft_is =
          subst (λ (a : List ℕ). IsDraftOf c.args.setting.now c.args.older c.args.papers.now c.args.day.input a c.in_ok-draft.draft)
          c.as_slice-2.ensures
          (subst (λ (i : List ℕ). IsDraftOf c.args.setting.now c.args.older c.args.papers.now i c.as_slice-2.result.now c.in_ok-draft.draft)
          c.as_slice.ensures c.in_ok-draft.ensures.draft);
      chain = c.in_ok-chain.chain;
      sound =
          subst (λ (f : List ℕ). IsSoundAfter c.args.setting.now c.args.older f c.in_ok-draft.draft.entry c.in_ok-chain.chain)
          c.as_slice-3.ensures c.in_ok-chain.ensures.sound;
      side = c.in_ok-side.side;
      side_is = c.in_ok-side.ensures;
      made_is = is;
    })
    c.made_by.ensures.made
