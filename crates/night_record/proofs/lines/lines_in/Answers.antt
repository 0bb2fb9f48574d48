use Rattle.std.proofs.Common.{◌≡◌, ◌<◌, ◌+◌, ◌-◌, ◌++◌, ◌∷◌, [], ◌∙◌, ℕ, List, length, take, drop, sym, ap, arith, append-nil}
use Rattle.std.proofs.Common.{◌==◌, ◌&&◌, None, length-drop, refl, subst, true}
use Rattle.std.specs.Prelude.{slice_index}
use Rattle.std.specs.Borrow.{Bor}
use Rattle.std.proofs.lemmas.Bool.{and_from}
use Rattle.std.proofs.lemmas.List.{map-append, take_all, take-append-drop}
use Rattle.std.proofs.lemmas.List.Folds.{list_all-append}
use Rattle.std.specs.List.{list_all, position}
use Rattle.std.proofs.lemmas.Grind.{flat_map-append}
use Rattle.csv_fields.specs.Csv.{read}
use Rattle.night_record.specs.Lines.{is_line, lines_text}
use Rattle.night_record.proofs.Cutting.{line_found, line_more, line_open}
use Rattle.night_record.proofs.LineTexts.{unended}
use Rattle.night_record.proofs.lines.lines_in.Goals as goal

one_text : (lines : List (List ℕ)) (line : List ℕ) → lines_text (lines ++ line ∷ []) ≡ lines_text lines ++ (line ++ 10 ∷ [])
one_text lines line =
    flat_map-append (λ (l : List ℕ). l ++ 10 ∷ []) lines (line ∷ [])
    ∙ ap (λ (t : List ℕ). lines_text lines ++ t) (append-nil (line ++ 10 ∷ []))

pub loop-at-preserved : goal.loop-at-preserved
loop-at-preserved c =
    let text : List ℕ = c.args.text.now in
    let at : ℕ = c.loop-at.at in
    let end : ℕ = c.in-Some.end in
    let lines : List (List ℕ) = read c.loop-at.lines.items in
    let rest : List ℕ = take (length text - at) (drop at text) in
    let long : length (drop at text) ≡ length text - at = length-drop at text in
    let whole : rest ≡ drop at text = take_all (length text - at) (drop at text) (omega (arith, long)) in
    let found = line_found rest end (sym c.in-Some.ensures) in
    let low : end < length (drop at text) = subst (λ (l : List ℕ). end < length l) whole found.0 in
    let feed : slice_index (drop at text) end ≡ 10 = subst (λ (l : List ℕ). slice_index l end ≡ 10) whole found.1 in
    let line : List ℕ = take end (drop at text) in
    let clean : is_line line ≡ true = subst (λ (l : List ℕ). is_line (take end l) ≡ true) whole found.2 in
    let more : at + end - at ≡ end = omega (arith) in
    let cut : take (at + end - at) (drop at text) ≡ line = ap (λ (n : ℕ). take n (drop at text)) more in
    let pushed : read c.push.new.self.items ≡ lines ++ line ∷ [] =
    ap (λ (l : List (Bor (List ℕ))). read l) c.in_ok-push.ensures.items ∙ map-append (λ (b : Bor (List ℕ)). b.now) c.loop-at.lines.items _
    ∙ ap (λ (l : List ℕ). lines ++ l ∷ []) cut in
    record {
      within = omega (arith, low, long);
      so_far = ap lines_text pushed ∙ one_text lines line ∙ ap (λ (t : List ℕ). t ++ (line ++ 10 ∷ [])) c.loop-at.invariant.so_far
          ∙ sym (line_more text at end low feed);
      each = ap (λ (l : List (List ℕ)). list_all is_line l) pushed ∙ list_all-append is_line lines (line ∷ [])
          ∙ and_from (list_all is_line lines) (is_line line && true) c.loop-at.invariant.each (and_from (is_line line) true clean refl);
    }

pub returns-in_default-clause-none : goal.returns-in_default-clause-none
returns-in_default-clause-none c is =
    let text : List ℕ = c.args.text.now in
    let at : ℕ = c.loop-at.at in
    let long : length (drop at text) ≡ length text - at = length-drop at text in
    let whole : take (length text - at) (drop at text) ≡ drop at text = take_all (length text - at) (drop at text) (omega (
      arith,
      long,
    )) in
    unended text (read c.loop-at.lines.items) (drop at text) c.loop-at.invariant.each
    (sym (take-append-drop at text) ∙ ap (λ (l : List ℕ). l ++ drop at text) (sym c.loop-at.invariant.so_far))
    (line_open (drop at text) (subst (λ (l : List ℕ). position (λ byte. byte == 10) l ≡ None) whole (sym c.line_end.ensures ∙
    c.in_default.is)))
    (λ empty. let none : length (drop at text) ≡ 0 = ap (λ (l : List ℕ). length l) empty in omega (
      arith,
      long,
      none,
      c.loop-at-test.true,
    ))
