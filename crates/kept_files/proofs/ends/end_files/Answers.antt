use Rattle.std.proofs.Common.{◌≡◌, ◌∙◌, List, ℕ, ap, map, rules}
use Rattle.std.specs.List.{flat_map}
use Rattle.std.proofs.lemmas.List.Folds.{flat_map-map}
use Rattle.night_record.specs.declared.record.SummedFile.{SummedFile}
use Rattle.night_shelf.specs.declared.night.NightFile.{NightFile}
use Rattle.kept_files.specs.Sums.{line_of, sum_of, sums_text}
use Rattle.kept_files.proofs.ends.end_files.Goals as goal

-- the lines of the sums of files are the lines of the files
lines : (sums : List SummedFile) (of : List NightFile) (text : List ℕ) → sums ≡ map sum_of of
    → text ≡ flat_map (λ (sum : SummedFile). line_of sum.name sum.sum) sums → text ≡ sums_text of
lines sums of text sums_are text_is =
    text_is ∙ ap (flat_map (λ (sum : SummedFile). line_of sum.name sum.sum)) sums_are
    ∙ flat_map-map (λ (sum : SummedFile). line_of sum.name sum.sum) sum_of of

pub returns : goal.returns
returns c = λ of sums_are. let text = lines c.args.out.now of _ sums_are c.in_ok-lines_of.ensures in search (rules, text)
