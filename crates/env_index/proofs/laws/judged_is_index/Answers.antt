use Rattle.std.proofs.Common.{ℕ, List, ap, ◌∙◌, sym, subst}
use Rattle.env_index.specs.Extents.{Chain, count_outside}
use Rattle.env_index.specs.Index.{IndexValue}
use Rattle.env_index.specs.Unjudged.{IsUnjudged, JudgedIsIndex, faults_of}
use Rattle.env_index.specs.Settled.{settled}
use Rattle.env_index.proofs.ByHeads.{all_judged, same_extents}
use Rattle.env_index.proofs.OneIndex.{index_is_one}
use Rattle.env_index.proofs.laws.judged_is_index.Goals as goal

judged : (text : List ℕ) (index : IndexValue) → IsUnjudged text index → JudgedIsIndex text index
judged text index is = record {
  same = is.same;
  chain = subst (Chain text) (sym (same_extents index.entries)) is.chain;
  entries = all_judged text index.entries is.entries;
  outside = is.outside ∙ ap (count_outside text 0) (sym (same_extents index.entries));
}

pub returns-clause-index : goal.returns-clause-index
returns-clause-index c = judged

pub returns-clause-plain : goal.returns-clause-plain
returns-clause-plain c = λ text index plain is of.
    index_is_one text (settled index (faults_of index.entries)) plain (judged text index is) of
