-- Acknowledgments that are continued partner by partner.
use Rattle.std.proofs.Common.{◌≡◌, ◌<◌, ◌≤◌, ℕ, ◌==◌, Bool, true, false, cond, List, [], ◌∷◌, ◌++◌, Some, length, refl, sym, ap, ◌∙◌}
use Rattle.std.proofs.Common.{◌⊎◌, inl, inr, arith, eqb-true, eq-eqb}
use Rattle.std.specs.Prelude.{slice_get, slice_set}
use Rattle.std.proofs.lemmas.Option.{slice_get_within}
use Rattle.set_answers.specs.CheckedText.{SentValues}
use Rattle.set_answers.specs.Counted.{AreContinued, continued_by}
use Rattle.set_answers.proofs.Growing.{length_snoc}
use Rattle.set_answers.proofs.Pairing.{last_or_before}
use Rattle.set_answers.proofs.Putting.{put_each, put_length}

-- those of the first partners, and the others as they were
pub record AreContinuedSoFar (done old new : List SentValues) : Type 0 where
  pub continued : AreContinued done old new
  pub rest : (q : ℕ) (f : SentValues) → length done ≤ q → slice_get old q ≡ Some f → slice_get new q ≡ Some f

pub none_continued : (files : List SentValues) → AreContinuedSoFar [] files files
none_continued files = record {
  continued = record { count = refl; each = λ q f g there other. cc };
  rest = λ q f past there. there;
}

apart : (k q : ℕ) → ((k ≡ q) → ⊥) → (k == q) ≡ false
apart k q other = by (k == q) refl
  where
    by : (b : Bool) → (k == q) ≡ b → b ≡ false
    by true is = absurd (other (eqb-true k q is))
    by false is = refl

-- one partner more
pub continued_more : (done : List SentValues) (g : SentValues) (old cur new : List SentValues) (k : ℕ) → k ≡ length done
    → k < length cur
    → ((f : SentValues) → slice_get cur k ≡ Some f → new ≡ slice_set cur k (continued_by f g))
    → AreContinuedSoFar done old cur → AreContinuedSoFar (done ++ g ∷ []) old new
continued_more done g old cur new k counted within made so_far = record {
  continued = record {
    count = put_length IsPut cur new k within put others ∙ so_far.continued.count;
    each = λ q f h there other. each q f h there (last_or_before done g h q other);
  };
  rest = λ q f past there.
      let far : k == q ≡ false = apart k q (λ e. omega (arith, past, length_snoc done g, counted, e)) in
      kept q f far (so_far.rest q f (omega (arith, past, length_snoc done g)) there);
}
  where
    IsPut : ℕ → SentValues → SentValues → Type 0
    IsPut q f v = v ≡ cond (k == q) (continued_by f g) f

    put : (f : SentValues) → slice_get cur k ≡ Some f → (v : SentValues) × (new ≡ slice_set cur k v) × IsPut k f v
    put f there = (
      continued_by f g,
      made f there,
      sym (ap (λ (b : Bool). cond b (continued_by f g) f) (eq-eqb k k refl)),
    )

    others : (q : ℕ) (f : SentValues) → (k == q) ≡ false → IsPut q f f
    others q f far = sym (ap (λ (b : Bool). cond b (continued_by f g) f) far)

    kept : (q : ℕ) (f : SentValues) → (k == q) ≡ false → slice_get cur q ≡ Some f → slice_get new q ≡ Some f
    kept q f far there =
        let v = put_each IsPut cur new k within put others q f there in
        v.1 ∙ ap (λ (w : SentValues). Some w) (v.2 ∙ ap (λ (b : Bool). cond b (continued_by f g) f) far)

    each : (q : ℕ) (f h : SentValues) → slice_get old q ≡ Some f
        → (slice_get done q ≡ Some h) ⊎ ((q ≡ length done) × (g ≡ h)) → slice_get new q ≡ Some (continued_by f h)
    each q f h there (inl before) =
        let far : k == q ≡ false =
        apart k q (λ e. omega (arith, slice_get_within done q h before, counted, e)) in
        kept q (continued_by f h) far (so_far.continued.each q f h there before)
    each q f h there (inr last) =
        let here : k ≡ q = counted ∙ sym last.0 in
        let v = put_each IsPut cur new k within put others q f (so_far.rest q f (omega (arith, last.0)) there) in
        v.1
        ∙ ap (λ (w : SentValues). Some w)
        (v.2 ∙ ap (λ (b : Bool). cond b (continued_by f g) f) (eq-eqb k q here) ∙ ap (continued_by f) last.1)
