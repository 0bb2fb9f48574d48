-- The bytes of the 999 of a group.
use Rattle.std.proofs.Common.{◌≡◌, ℕ, Bool, true, false, cond, ◌&&◌, List, [], ◌∷◌, ◌++◌, Option, Some, None, map}
use Rattle.std.proofs.Common.{take, length, refl, sym, ap, ◌∙◌, append-nil}
use Rattle.std.specs.Prelude.{codes, decimal, option_map, find, if◌then◌else◌}
use Rattle.std.specs.List.{All, flat_map, list_any}
use Rattle.std.specs.Str.{bytes_eq}
use Rattle.std.proofs.lemmas.Bool.{or_parts}
use Rattle.std.proofs.lemmas.List.Folds.{flat_map-map}
use Rattle.x12_bytes.specs.declared.delims.Delims.{Delims}
use Rattle.x12_segs.specs.Words.{SegValue, element_of}
use Rattle.x12_write.specs.Group.{texts_in_row}
use Rattle.x12_write.specs.Number.{set_number}
use Rattle.x12_write.specs.Segment.{WrittenSegment, segment_text}
use Rattle.hub_kinds.specs.Words.{number_of}
use Rattle.hub_kinds.specs.declared.answers.GroupAnswer.{GroupAnswer}
use Rattle.hub_kinds.specs.declared.answers.SetAnswer.{SetAnswer}
use Rattle.hub_kinds.specs.declared.limits.TheConstants.{MOST_CONTROL_DIGITS, MOST_COUNT_DIGITS}
use Rattle.hub_kinds.specs.declared.set_codes.GroupCode.TheVariants as code
use Rattle.guide_tree.specs.declared.rows.GuideRows.{GuideRows}
use Rattle.env_index.specs.Words.{GroupEntry}
use Rattle.env_index.specs.declared.entry.SetEnvelope.{SetEnvelope}
use Rattle.partner_setup.specs.Setup.{guide_for_set, guides_of, has_group, is_for_version}
use Rattle.set_check.specs.Checked.{guide_tree_of}
use Rattle.ack_999.specs.Group.{are_same_number, earlier_group_codes, group_codes_of, totals_of, unless}
use Rattle.ack_999.specs.Report.{group_response, head_text, segment_count, set_text, sets_text, shows_sets, tail_text, text_999}
use Rattle.ack_999.specs.declared.support.GroupSupport.{GroupSupport}
use Rattle.ack_999.specs.declared.support.GroupSupport.TheVariants as support
use Rattle.ack_999.specs.declared.trailer.GroupTrailer.{GroupTrailer}
use Rattle.ack_999.proofs.ForAbove.{text_999-parts}
use Rattle.set_answers.specs.declared.answered.AnsweredGroup.{AnsweredGroup}
use Rattle.set_answers.specs.Answers.{AreSetAnswers, IsGroupAnswer, IsSetAnswer, SentValue, answer_by, codes_where, has_number_among}
use Rattle.set_answers.specs.Answers.{support_of, trailer_of}
use Rattle.set_answers.specs.Pairs.{AreAllPairs}
use Rattle.night_law.specs.Meets.{Meets}
use Rattle.night_law.specs.Told.{IsGroupTold, IsSetTold, is_served}
use Rattle.night_law.proofs.Headers.{HasHeader, at_index}
use Rattle.night_law.proofs.Pairs.{no_pairs, pairs_map}
use Rattle.night_law.proofs.TellingSets.{set_told}

-- the support under which sets are shown
abbrev shows : GroupSupport → Bool
shows support.Served = true
shows support.NotServed = false
shows support.VersionNotServed = false

-- codes of trailers and numbers hide no set
by_tests : (a b earlier : Bool)
    → shows_sets ((unless a code.ControlNumbersDiffer ++ unless b code.SetCountWrong) ++ earlier_group_codes earlier) ≡ true
by_tests true true true = refl
by_tests true true false = refl
by_tests true false true = refl
by_tests true false false = refl
by_tests false true true = refl
by_tests false true false = refl
by_tests false false true = refl
by_tests false false false = refl

codes_show : (served : GroupSupport) (control : List ℕ) (trailer : Option GroupTrailer) (sets : ℕ) (earlier : Bool)
    → shows_sets (group_codes_of served control trailer sets earlier) ≡ shows served
codes_show support.Served control None sets true = refl
codes_show support.Served control None sets false = refl
codes_show support.Served control (Some trailer) sets earlier =
    by_tests (are_same_number (number_of MOST_CONTROL_DIGITS trailer.control) (number_of MOST_CONTROL_DIGITS control))
    (are_same_number (number_of MOST_COUNT_DIGITS trailer.listed) (Some sets)) earlier
codes_show support.NotServed control trailer sets earlier = refl
codes_show support.VersionNotServed control trailer sets earlier = refl

shows_served : (version group : Bool)
    → shows (if version then support.Served else (if group then support.VersionNotServed else support.NotServed)) ≡ version
shows_served true group = refl
shows_served false true = refl
shows_served false false = refl

-- the sets of a group are shown where it is served
pub shown_as_served : (sent : SentValue) (earlier : Bool) (group : GroupEntry)
    → shows_sets (codes_where sent earlier group) ≡ is_served sent group
shown_as_served sent earlier group =
    codes_show (support_of sent.setup sent.sender group.header) (element_of group.header 6) (option_map trailer_of group.trailer)
    (length group.sets) earlier
    ∙ shows_served (is_served sent group) (has_group sent.setup sent.sender (element_of group.header 1))

-- the AK2 loops, where sets are shown
abbrev loops_if : Bool → Delims → List SetAnswer → List (List ℕ)
loops_if served d answers = if served then map (set_text d) answers else []

loops_text : (served : Bool) (d : Delims) (answers : List SetAnswer)
    → (if served then flat_map (set_text d) answers else []) ≡ texts_in_row (loops_if served d answers)
loops_text true d answers = sym (flat_map-map (λ (t : List ℕ). t) (set_text d) answers)
loops_text false d answers = refl

loops_told : (served : Bool) (d : Delims) (sent : SentValue) (gs : SegValue) (sets : List SetEnvelope) (answers : List SetAnswer)
    → All (HasHeader sent.text sent.delims) sets → AreSetAnswers sent gs sets answers
    → AreAllPairs (λ k set loop. IsSetTold d sent gs (take k sets) set loop) (if served then sets else []) (loops_if served d answers)
loops_told true d sent gs sets answers headers are =
    pairs_map (λ n set answer. IsSetAnswer sent gs (take n sets) set answer) (λ k set loop. IsSetTold d sent gs (take k sets) set loop)
    (set_text d) sets answers (λ n set answer at_set is. set_told d sent gs (take n sets) set answer
    (at_index (HasHeader sent.text sent.delims) sets n set at_set headers) is) are
loops_told false d sent gs sets answers headers are = no_pairs (λ k set loop. IsSetTold d sent gs (take k sets) set loop)

-- what no item of a list passes, none passes with one condition more
none_found : {A : Type 0} (p q : A → Bool) (xs : List A) → list_any p xs ≡ false → find (λ x. p x && q x) xs ≡ None
none_found p q [] none = refl
none_found {A} p q (x ∷ xs) none =
    let parts = or_parts (p x) (list_any p xs) none in
    ap (λ (b : Bool). cond (b && q x) (Some x) (find (λ (y : A). p y && q y) xs)) parts.0 ∙ none_found p q xs parts.1

-- no set of a group that isn't served meets its guide
others_fail : (sent : SentValue) (group : GroupEntry) → is_served sent group ≡ false → (before : List SetEnvelope) (set : SetEnvelope)
    → Meets sent group.header before set → ⊥
others_fail sent group none before set meets =
    let gs1 : List ℕ = element_of group.header 1 in
    let gs8 : List ℕ = element_of group.header 8 in
    let no_guide : guide_for_set sent.setup sent.sender gs1 gs8 (element_of set.header 1) ≡ None =
    none_found (is_for_version gs1 gs8) (λ (g : GuideRows). bytes_eq g.head.set (element_of set.header 1))
    (guides_of sent.setup sent.sender) none in
    let guided : None ≡ Some meets.alone.known = sym (ap guide_tree_of no_guide) ∙ meets.alone.guided in
    cc

-- head, sets and tail, each with its parts
parts_in_row : (st ak1 sets ak9 se : List ℕ) → ((st ++ (ak1 ++ [])) ++ sets) ++ (ak9 ++ (se ++ [])) ≡ ((st ++ ak1) ++ sets) ++ (ak9 ++ se)
parts_in_row st ak1 sets ak9 se =
    ap (λ (t : List ℕ). ((st ++ t) ++ sets) ++ (ak9 ++ (se ++ []))) (append-nil ak1)
    ∙ ap (λ (t : List ℕ). ((st ++ ak1) ++ sets) ++ (ak9 ++ t)) (append-nil se)

pub group_told : (d : Delims) (sent : SentValue) (n : ℕ) (before : List GroupEntry) (group : GroupEntry) (answered : AnsweredGroup)
    → All (HasHeader sent.text sent.delims) group.sets → IsGroupAnswer sent before group answered
    → IsGroupTold d sent n before group (text_999 d answered.answer answered.sets n)
group_told d sent n before group answered headers is =
    let g : GroupAnswer = answered.answer in
    let sets : List SetAnswer = answered.sets in
    let earlier : Bool = has_number_among before group in
    let response : WrittenSegment = group_response g (totals_of sets) in
    let segments : ℕ = segment_count g (totals_of sets) in
    let served : shows_sets g.codes ≡ is_served sent group =
    ap (λ (a : GroupAnswer). shows_sets a.codes) is.is ∙ shown_as_served sent earlier group in
    let head : head_text d g n ≡ head_text d (answer_by (codes_where sent earlier group) group sets) n =
    ap (λ (a : GroupAnswer). head_text d a n) is.is in
    let shown : sets_text d g sets ≡ texts_in_row (loops_if (is_served sent group) d sets) =
    ap (λ (b : Bool). if b then flat_map (set_text d) sets else []) served ∙ loops_text (is_served sent group) d sets in
    let told : List ℕ = texts_in_row (loops_if (is_served sent group) d sets) in
    let number : List ℕ = set_number n in
    let gs : SegValue = group.header in
    record {
      answered = answered;
      answers = is;
      loops = loops_if (is_served sent group) d sets;
      is = sym (text_999-parts d g sets n)
          ∙ ap (λ (t : List ℕ). t ++ sets_text d g sets ++ tail_text d g (totals_of sets) n) head
          ∙ ap (λ (t : List ℕ).
          head_text d (answer_by (codes_where sent earlier group) group sets) n ++ t ++ tail_text d g (totals_of sets) n) shown
          ∙ parts_in_row (segment_text d (codes "ST") (codes "999" ∷ number ∷ codes "005010X231" ∷ []))
          (segment_text d (codes "AK1") (element_of gs 1 ∷ element_of gs 6 ∷ element_of gs 8 ∷ [])) told
          (segment_text d (codes "AK9") response.elements) (segment_text d (codes "SE") (decimal segments ∷ number ∷ []));
      each = loops_told (is_served sent group) d sent group.header group.sets sets headers is.sets;
      others = others_fail sent group;
    }
