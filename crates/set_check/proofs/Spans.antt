-- The segments of a set's span: there is an ST, and an SE after it where the set is closed.
use Rattle.std.proofs.Common.{◌≡◌, ◌≤◌, ℕ, Bool, true, false, List, [], ◌∷◌, ◌++◌, length, map, refl, sym, ◌∙◌, ap, arith, subst}
use Rattle.std.specs.List.{All}
use Rattle.std.proofs.lemmas.List.{length-map}
use Rattle.std.proofs.lemmas.List.Elements.{All-map}
use Rattle.x12_segs.specs.Words.{kind_of, IsSetSpan, span_segs, span_views, trailer_kinds, SegValue, view_of}
use Rattle.x12_segs.specs.declared.kind.Kind.{Kind}
use Rattle.x12_segs.specs.declared.kind.Kind.TheVariants.{SetHeader}
use Rattle.x12_segs.specs.declared.set_span.SetSpan.{SetSpan}
use Rattle.set_check.specs.SetParts.{before_trailer}

some_by : (n : ℕ) (k : Kind) (ks : List Kind) → n ≡ length (k ∷ ks) → 1 ≤ n
some_by n k ks e = omega arith

room_by : (closed : Bool) (n : ℕ) (inner : List Kind) → n ≡ length (SetHeader ∷ (inner ++ trailer_kinds closed))
    → 1 ≤ before_trailer closed n
room_by true n [] e = omega arith
room_by true n (k ∷ inner) e = omega arith
room_by false n inner e = omega arith

module _ (text : List ℕ) (span : SetSpan) (segs : List SegValue) (s : IsSetSpan text span) (e : segs ≡ span_views text span) where
  counted : length segs ≡ length (SetHeader ∷ (s.inner ++ trailer_kinds span.closed))
  counted = sym (length-map segs kind_of) ∙ ap (λ (xs : List SegValue). length (map kind_of xs)) e ∙ ap length s.kinds

  pub some_of : 1 ≤ length segs
  some_of = some_by (length segs) SetHeader (s.inner ++ trailer_kinds span.closed) counted

  pub room_of : 1 ≤ before_trailer span.closed (length segs)
  room_of = room_by span.closed (length segs) s.inner counted

  pub read_of : All (λ s. s.delims ≡ span.delims) segs
  read_of = subst (All (λ (v : SegValue). v.delims ≡ span.delims)) (sym e)
      (All-map (λ (v : SegValue). v.delims ≡ span.delims) (view_of span.delims) (span_segs text span) (λ k d h. refl))
