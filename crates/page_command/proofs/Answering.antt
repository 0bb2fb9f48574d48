-- Samples for rules with numbers that rise, one after another.
use Rattle.std.proofs.Common.{◌≡◌, ◌∙◌, ◌≤◌, ◌+◌, ℕ, List, [], ◌∷◌, ◌++◌, append_assoc, ap, arith, length, map, sym}
use Rattle.std.proofs.lemmas.List.{append-nil, map-append}
use Rattle.std.proofs.lemmas.List.Elements.{All-append, All-cons, All-nil}
use Rattle.guide_names.specs.Names.{Words}
use Rattle.guide_page.specs.declared.page.Answer.{Answer}
use Rattle.guide_tree.specs.Words.{GuideTree}
use Rattle.guide_samples.specs.Samples.{BreaksRule}
use Rattle.guide_samples.specs.declared.rule.Rule.{Rule}
use Rattle.page_command.specs.Samples.{AddsAnswers, AreAnswers, AreBreaking, AreRising, IsBreaking, Sample, answer_of}

from_less : (a b c : ℕ) (ss : List Sample) → a ≤ b → AreRising b c ss → AreRising a c ss
from_less a b c [] low up = omega (arith, low, up)
from_less a b c (s ∷ ss) low up = (omega (arith, low, up.0), up.1)

to_less : (a c : ℕ) (ss : List Sample) → AreRising a c ss → a ≤ c
to_less a c [] up = up
to_less a c (s ∷ ss) up = omega (arith, up.0, to_less (s.number + 1) c ss up.1)

rise : (a b c : ℕ) (ss more : List Sample) → AreRising a b ss → AreRising b c more → AreRising a c (ss ++ more)
rise a b c [] more up on = from_less a b c more up on
rise a b c (s ∷ ss) more up on = (up.0, rise (s.number + 1) b c ss more up.1 on)

pub none : (g : GuideTree) (rules : List Rule) (a b : ℕ) → a ≤ b → AreBreaking g rules a b []
none g rules a b low = record { each = All-nil (IsBreaking g rules); rising = low }

pub single : (g : GuideTree) (rules : List Rule) (n : ℕ) (text lines : List ℕ) → BreaksRule g rules n text lines
    → AreBreaking g rules n (n + 1) (record { number = n; text = text; lines = lines } ∷ [])
single g rules n text lines breaks =
    let s : Sample = record { number = n; text = text; lines = lines } in
    record { each = All-cons (IsBreaking g rules) s [] breaks (All-nil (IsBreaking g rules)); rising = (omega arith, omega arith) }

pub joined : (g : GuideTree) (rules : List Rule) (a b c : ℕ) (ss more : List Sample) → AreBreaking g rules a b ss
    → AreBreaking g rules b c more → AreBreaking g rules a c (ss ++ more)
joined g rules a b c ss more first next = record {
  each = All-append (IsBreaking g rules) ss more first.each next.each;
  rising = rise a b c ss more first.rising next.rising;
}

pub no_answer : (w : Words) (g : GuideTree) (rules : List Rule) (a b : ℕ) (answers : List Answer) → a ≤ b
    → AddsAnswers w g rules a b answers answers
no_answer w g rules a b answers low =
    record { samples = []; breaking = none g rules a b low; added = sym (append-nil answers) }

pub one_answer : (w : Words) (g : GuideTree) (rules : List Rule) (n : ℕ) (text lines : List ℕ) (old new : List Answer) (a : Answer)
    → BreaksRule g rules n text lines → a ≡ answer_of w (record { number = n; text = text; lines = lines }) → new ≡ old ++ a ∷ []
    → AddsAnswers w g rules n (n + 1) old new
one_answer w g rules n text lines old new a breaks is adds = record {
  samples = record { number = n; text = text; lines = lines } ∷ [];
  breaking = single g rules n text lines breaks;
  added = adds ∙ ap (λ (x : Answer). old ++ x ∷ []) is;
}

pub more_answers : (w : Words) (g : GuideTree) (rules : List Rule) (a b c : ℕ) (old mid new : List Answer)
    → AddsAnswers w g rules a b old mid
    → AddsAnswers w g rules b c mid new → AddsAnswers w g rules a c old new
more_answers w g rules a b c old mid new first next = record {
  samples = first.samples ++ next.samples;
  breaking = joined g rules a b c first.samples next.samples first.breaking next.breaking;
  added = next.added ∙ ap (λ (l : List Answer). l ++ map (answer_of w) next.samples) first.added
      ∙ append_assoc old (map (answer_of w) first.samples) (map (answer_of w) next.samples)
      ∙ ap (λ (l : List Answer). old ++ l) (sym (map-append (answer_of w) first.samples next.samples));
}

abbrev pub answer_made : (lines name words : List ℕ) → Answer
answer_made lines name words = record { name = name; words = words; lines = lines }

to_more : (a b c : ℕ) (ss : List Sample) → b ≤ c → AreRising a b ss → AreRising a c ss
to_more a b c [] low up = omega (arith, low, up)
to_more a b c (s ∷ ss) low up = (up.0, to_more (s.number + 1) b c ss low up.1)

pub all_answers : (w : Words) (g : GuideTree) (rules : List Rule) (n : ℕ) (answers : List Answer) → n ≤ length rules
    → AddsAnswers w g rules 0 n [] answers → AreAnswers w g answers
all_answers w g rules n answers low adds = record {
  rules = rules;
  samples = adds.samples;
  breaking = record { each = adds.breaking.each; rising = to_more 0 n (length rules) adds.samples low adds.breaking.rising };
  answers_are = adds.added;
}
