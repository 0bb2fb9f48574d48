-- What is known of a text that was proposed and judged, and of a failure.
use Rattle.std.proofs.Common.{◌≡◌, ℕ, zero, suc, List, [], ◌∷◌, map, Option, Some, None, inl, inr, subst, sym}
use Rattle.std.specs.Prelude.{IfSome}
use Rattle.std.specs.List.{All, slice_get}
use Rattle.std.specs.Borrow.{Bor}
use Rattle.std.proofs.lemmas.Option.{same_Some}
use Rattle.check_command.specs.Files.{path_of}
use Rattle.guide_tree.specs.declared.rows.GuideRows.{GuideRows}
use Rattle.guide_tree.specs.Words.{guide_of}
use Rattle.night_equal_guides.specs.Laws.{GuideBytesAreOne}
use Rattle.check_command.specs.declared.files.Given.{Given}
use Rattle.check_command.specs.declared.judged.Judged.{Judged}
use Rattle.check_command.specs.declared.judged.Judged.TheVariants as judged
use Rattle.check_command.specs.Judgements.{IsGuideJudged}
use Rattle.learn_command.specs.Failure.{status_of}
use Rattle.learn_command.specs.Outcome.{IsBefore, IsRefused, IsSomeRefused, IsTakenFile, IsUnlearned, TakesFiles}
use Rattle.learn_command.specs.declared.failure.Failure.{Failure}
use Rattle.learn_command.specs.declared.failure.Failure.TheVariants as failure

-- a text that writes a guide, which takes files, describes it
pub described : GuideBytesAreOne → (text : Option (List ℕ)) (j : Judged GuideRows) (rows : GuideRows) → j ≡ judged.Taken rows
    → IsGuideJudged text j → (files : List Given) (st01 : Option (List ℕ)) → All (IsTakenFile (guide_of rows) st01) files
    → IfSome text (TakesFiles files st01)
described law None j rows is by files st01 all = tt
described law (Some text) j rows is by files st01 all = record {
  guide = guide_of rows;
  described = law text rows (subst (IsGuideJudged (Some text)) is by);
  takes = all;
}

-- a failure after the guides that are known were read
pub before : (known : List (List ℕ)) (f : Failure) → IsUnlearned f → IsBefore known f
before known (failure.NoGuide line) is = tt
before known (failure.Known line) is = absurd is
before known (failure.Sample line) is = tt
before known failure.Memory is = tt

-- a failure that ends with 3 is of a guide that is known
pub of_known : (known : List (List ℕ)) (f : Failure) → IsBefore known f → status_of f ≡ 3 → IsSomeRefused known
of_known known (failure.NoGuide line) is three = cc
of_known known (failure.Known line) is three = is
of_known known (failure.Sample line) is three = cc
of_known known failure.Memory is three = cc

-- the guide at one of some paths is refused
pub some_refused : (paths : List (Bor (List ℕ))) (k : ℕ) (path : Bor (List ℕ)) → slice_get paths k ≡ Some path → IsRefused path.now
    → IsSomeRefused (map (λ p. p.now) paths)
some_refused [] k path there is = cc
some_refused (p ∷ ps) zero path there is = inl (subst (λ (q : Bor (List ℕ)). IsRefused q.now) (sym (same_Some p path there)) is)
some_refused (p ∷ ps) (suc k) path there is = inr (some_refused ps k path there is)

-- what was read at a path is refused as a guide
pub refused_at : (path : List ℕ) (file : Given) (j : Judged GuideRows) (text : List ℕ) → path_of file ≡ path → j ≡ judged.Refused text
    → IsGuideJudged file.bytes j → IsRefused path
refused_at path file j text at is by =
    record { file = file; at = at; text = text; refused = subst (IsGuideJudged file.bytes) is by }
