-- The guide file (own): which texts its lists may have.
use Rattle.std.specs.Prelude.{ℕ, List, Bool, is_some}
use Rattle.guide_toml.specs.declared.entry.Form.TheVariants as form
use Rattle.guide_toml.specs.declared.listed_text.ListedText.{ListedText}
use Rattle.guide_toml.specs.declared.listed_text.ListedText.TheVariants as listed
use Rattle.guide_toml.specs.ElementTexts.{element_of_text}
use Rattle.guide_toml.specs.Entries.{condition_of, element_code_of, has_form, pair_of, pick_of, segment_code_of}

-- a text that means something there
abbrev pub can_stand : ListedText → List ℕ → Bool
can_stand listed.Element text = is_some (element_of_text text)
can_stand listed.Condition text = is_some (condition_of text)
can_stand listed.Pick text = is_some (pick_of text)
can_stand listed.LevelPair text = is_some (pair_of text)
can_stand listed.Code text = has_form form.Code text
can_stand listed.SegmentId text = has_form form.SegmentId text
can_stand listed.SegmentCode text = is_some (segment_code_of text)
can_stand listed.ElementCode text = is_some (element_code_of text)
