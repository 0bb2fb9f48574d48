use Rattle.std.proofs.Common.{◌≡◌, ◌∙◌, ℕ, List, [], ◌∷◌, length, ap, sym, arith}
use Rattle.std.specs.List.{All}
use Rattle.std.proofs.lemmas.List.Elements.{All-nil, All-cons}
use Rattle.x12_bytes.specs.declared.pair.Pair.{Pair}
use Rattle.env_marks.specs.Marking.{MarksValue, marks_of}
use Rattle.env_index.specs.Words.{AreMarks}
use Rattle.trial_cuts.proofs.sweep.is_same_by.Goals as goal

-- the marks of a whole text are marks of it
marked : (text : List ℕ) (pair : Pair) (m : MarksValue) → m ≡ marks_of pair text 0 (length text) → AreMarks text m
marked text pair m e = record {
  from = 0;
  to = length text;
  order = omega arith;
  within = omega arith;
  is = e ∙ ap (λ (p : Pair). marks_of p text 0 (length text)) (sym (ap (λ (v : MarksValue). v.pair) e));
}

alone : (text : List ℕ) (pair : Pair) (m : MarksValue) → m ≡ marks_of pair text 0 (length text) → All (AreMarks text) (m ∷ [])
alone text pair m e = All-cons (AreMarks text) m [] (marked text pair m e) (All-nil (AreMarks text))

pub index_of_pieces-requires-2-clause-marked : goal.index_of_pieces-requires-2-clause-marked
index_of_pieces-requires-2-clause-marked c =
    alone c.args.text.now c.in-Some.head.now.pair c.in_ok-marks-2.marks (c.in_ok-marks-2.ensures {u = tt})
