-- The interchanges that the definition finds in a text are the text's chain.
use Rattle.std.proofs.Common.{◌≡◌, ℕ, ◌+◌, ◌<◌, ◌≤◌, List, [], ◌∷◌, Bool, true, false, map, drop, length, refl, sym, ap, subst, ◌∙◌}
use Rattle.std.proofs.Common.{arith, inl, inr}
use Rattle.std.specs.Prelude.{if◌then◌else◌, nat_lt}
use Rattle.std.specs.List.{All}
use Rattle.std.proofs.lemmas.Bool.{cases_lt, ltb-false, ltb-true}
use Rattle.std.proofs.lemmas.List.{drop-drop, length-drop}
use Rattle.std.proofs.lemmas.List.Elements.{All-cons, All-nil}
use Rattle.x12_bytes.specs.HeaderTest as then_test
use Rattle.env_index.specs.Words.{Chain, ChainFrom, Extent, IsNextHead}
use Rattle.env_index.specs.Words as then
use Rattle.env_index.proofs.ForAbove.{no_head_past}
use Rattle.whole_interchanges.proofs.ForAbove.{end_behind}
use Rattle.night_definition.specs.Header.{is_head}
use Rattle.night_definition.specs.Interchanges.{Interchange, Text, found_at, found_from, interchange_at, is_filler, text_of, with_byte}
use Rattle.night_equal.proofs.ForAbove.{heads}
use Rattle.gather_files.proofs.Reaching.{ends}

abbrev pub extent : Interchange → Extent
extent x = record { start = x.start; end = x.end }

abbrev pub extents : List Interchange → List Extent
extents xs = map extent xs

pub byte_adds_none : (b : ℕ) (t : Text) → (with_byte b t).interchanges ≡ t.interchanges
byte_adds_none b t = by_test (is_filler b)
  where
    by_test : (f : Bool) → (let r : Text = if f then t else record t { outside = t.outside + 1 } in r).interchanges ≡ t.interchanges
    by_test true = refl
    by_test false = refl

next_drop : (text : List ℕ) (offset b : ℕ) (bytes : List ℕ) → drop offset text ≡ b ∷ bytes → drop (offset + 1) text ≡ bytes
next_drop text offset b bytes is = sym (drop-drop 1 offset text) ∙ ap (λ (xs : List ℕ). drop 1 xs) is

-- no header begins between the end that was found last and an offset
abbrev NoneBetween : List ℕ → (end offset : ℕ) → Type 0
NoneBetween text end offset = (q : ℕ) → end ≤ q → q < offset → then_test.is_head text q ≡ false

walked : (text bytes : List ℕ) (offset end : ℕ) → drop offset text ≡ bytes → NoneBetween text end offset
    → ChainFrom text end (extents (found_from text bytes offset end).interchanges)
walked text [] offset end here none = λ q low. elim (cases_lt q offset) [
  | inl lt ↦ none q low lt
  | inr ge ↦
      let nothing : length (drop offset text) ≡ 0 = ap (λ (xs : List ℕ). length xs) here in
      no_head_past text q (omega (arith, ge, nothing, length-drop offset text))
]
walked text (b ∷ bytes) offset end here none =
    by (nat_lt offset end) (is_head text offset) refl refl
    (λ later none. walked text bytes (offset + 1) later (next_drop text offset b bytes here) none)
  where
    by : (within head : Bool) → nat_lt offset end ≡ within → is_head text offset ≡ head
        → ((later : ℕ) → NoneBetween text later (offset + 1)
        → ChainFrom text later (extents (found_from text bytes (offset + 1) later).interchanges))
        → ChainFrom text end
        (extents (found_at within head text offset end b (λ e. found_from text bytes (offset + 1) e)).interchanges)
    by true head lt is more =
        let below : offset < end = ltb-true offset end lt in
        more end (λ q low near. absurd (omega (arith, low, near, below)))
    by false true ge is more =
        let x : Interchange = interchange_at text offset in
        let head : then_test.is_head text offset ≡ true = sym (heads text offset) ∙ is in
        let same : x.end ≡ (then.reach_at text offset).end = ends text offset in
        let far : offset + 106 ≤ (then.reach_at text offset).end = end_behind text offset head in (
          record { behind = ltb-false offset end ge; head = head; least = none },
          same,
          more x.end (λ q low near. absurd (omega (arith, low, near, far, same))),
        )
    by false false ge is more =
        subst (λ (xs : List Interchange). ChainFrom text end (extents xs))
        (sym (byte_adds_none b (found_from text bytes (offset + 1) end)))
        (more end (λ q low near. elim (cases_lt q offset) [
          | inl lt ↦ none q low lt
          | inr past ↦
              let at : q ≡ offset = omega (arith, past, near) in
              ap (then_test.is_head text) at ∙ sym (heads text offset) ∙ is
        ]))

pub chain_of : (text : List ℕ) → Chain text (extents (text_of text).interchanges)
chain_of text = walked text text 0 0 refl (λ q low lt. absurd (omega (arith, lt)))

-- each is the one that begins where it starts
abbrev IsThere : List ℕ → Interchange → Type 0
IsThere text x = x ≡ interchange_at text x.start

there : (text bytes : List ℕ) (offset end : ℕ) → All (IsThere text) (found_from text bytes offset end).interchanges
there text [] offset end = All-nil (IsThere text)
there text (b ∷ bytes) offset end =
    by (nat_lt offset end) (is_head text offset) (λ later. there text bytes (offset + 1) later)
  where
    by : (within head : Bool) → ((later : ℕ) → All (IsThere text) (found_from text bytes (offset + 1) later).interchanges)
        → All (IsThere text) (found_at within head text offset end b (λ e. found_from text bytes (offset + 1) e)).interchanges
    by true head more = more end
    by false true more =
        let x : Interchange = interchange_at text offset in
        All-cons (IsThere text) x (found_from text bytes (offset + 1) x.end).interchanges refl (more x.end)
    by false false more =
        subst (All (IsThere text)) (sym (byte_adds_none b (found_from text bytes (offset + 1) end))) (more end)

pub each_there : (text : List ℕ) → All (λ (x : Interchange). x ≡ interchange_at text x.start) (text_of text).interchanges
each_there text = there text text 0 0
