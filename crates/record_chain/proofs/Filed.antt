-- The breaks of a night's files, one list after another.
use Rattle.std.proofs.Common.{◌≡◌, ◌∙◌, ◌++◌, List, ℕ, Option, ap, append_assoc, sym}
use Rattle.std.proofs.lemmas.Grind.{flat_map-append}
use Rattle.night_record.specs.declared.record.SummedFile.{SummedFile}
use Rattle.record_chain.specs.Breaks.{file_breaks, file_named, found_breaks, listed, listed_breaks, listed_fault, wrong_file}
use Rattle.record_chain.specs.declared.breaks.ChainBreak.{ChainBreak}
use Rattle.record_chain.specs.declared.night.ReadNight.{ReadNight}

pub filed : (night : ReadNight) (old one two new : List ChainBreak) (there of : List ℕ → Option SummedFile)
    → ((name : List ℕ) → there name ≡ file_named night.found name) → ((name : List ℕ) → of name ≡ file_named (listed night.record) name)
    → one ≡ old ++ listed_breaks there night night.record.made_of → two ≡ one ++ listed_breaks there night night.record.gave
    → new ≡ two ++ found_breaks of night night.found → new ≡ old ++ file_breaks night
filed night old one two new there of there_is of_is first second third =
    let made_of = night.record.made_of in
    let gave = night.record.gave in
    let last = found_breaks of night night.found in
    third ∙ ap (λ t. t ++ last) (second ∙ ap (λ t. t ++ listed_breaks there night gave) first
    ∙ append_assoc old (listed_breaks there night made_of) (listed_breaks there night gave)
    ∙ ap (λ t. old ++ t) (sym (flat_map-append (λ (file : SummedFile). wrong_file night file.name (listed_fault file (there file.name)))
    made_of gave)))
    ∙ append_assoc old (listed_breaks there night (listed night.record)) last
    ∙ λ i. old
    ++ (listed_breaks (λ name. there_is name i) night (listed night.record) ++ found_breaks (λ name. of_is name i) night night.found)
