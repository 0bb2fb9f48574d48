-- The text of the next counters.
use Rattle.std.proofs.Common.{◌≡◌, List, [], ◌∷◌, ◌++◌, codes, refl, ap, ◌∙◌, append_assoc}
use Rattle.hub_kinds.specs.declared.counters.Counters.{Counters}
use Rattle.partner_setup.specs.declared.partner.Partner.{Partner}
use Rattle.partner_setup.specs.CountersText.{counter_lines, counters_lines}
use Rattle.night_definition.specs.SetupFile.{counter_text, counter_texts}
use Rattle.night_equal_setup.specs.Laws.{CountersTextsAreOne}

text_is : (p : Partner) (c : Counters) → counter_text p c ≡ counter_lines p.name c
text_is p c = simp append_assoc

texts_are : (ps : List Partner) (cs : List Counters) → counter_texts ps cs ≡ counters_lines ps cs
texts_are [] cs = refl
texts_are (p ∷ ps) [] = refl
texts_are (p ∷ ps) (c ∷ cs) =
    ap (λ t. t ++ counter_texts ps cs) (text_is p c) ∙ ap (λ t. counter_lines p.name c ++ t) (texts_are ps cs)

pub counters_texts_are_one : CountersTextsAreOne
counters_texts_are_one setup next = ap (λ t. codes "version = 2\n" ++ t) (texts_are setup.partners next)
