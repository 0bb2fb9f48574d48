-- The program's results (own): what is printed.
use Rattle.std.specs.Prelude.{◌≡◌, ◌≢◌, ℕ, List, [], Option, None, IfSome, codes, false}
use Rattle.ack_read.specs.Words.{AreToldBy, IsRefused}
use Rattle.ack_read.specs.declared.fault.ReadFault.TheVariants as fault
use Rattle.ack_read.specs.declared.told.Told.{Told}
use Rattle.ack_lines.specs.Words.{named_explanation}
use Rattle.guide_names.specs.Names.{Words}
use Rattle.explain_command.specs.Ends.{cut_of, is_997}
use Rattle.explain_command.specs.declared.ends.CutOff.{CutOff}

-- these lines say in words, with the names of a names file, what the acknowledgments of a text report, and where it is cut off: a text
-- without a byte is that of a partner
-- whom nobody answers; one that is cut off may report nothing yet
pub data IsSaidOf (words : Words) (text lines : List ℕ) (cut : Option CutOff) : Type 0 where
  Unanswered : text ≡ [] → lines ≡ codes "no acknowledgments\n" → cut ≡ None → IsSaidOf words text lines cut
  Answered : (found : List Told) → AreToldBy text found → is_997 text ≡ false → lines ≡ named_explanation words found → cut_of text ≡ cut
      → IsSaidOf words text lines cut
  Begun : IsRefused text fault.TellsNothing → is_997 text ≡ false → lines ≡ [] → cut_of text ≡ cut → cut ≢ None
      → IsSaidOf words text lines cut

-- they are those of some text, which is all that a reader declared, where it declared it
pub record IsExplanationOf (words : Words) (told : Option (List ℕ)) (lines : List ℕ) (cut : Option CutOff) : Type 0 where
  pub text : List ℕ
  pub told_all : IfSome told (λ xs. text ≡ xs)
  pub said : IsSaidOf words text lines cut
