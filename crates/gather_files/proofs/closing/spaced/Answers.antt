use Rattle.std.proofs.Common.{◌≡◌, ◌∙◌, ◌+◌, ◌<◌, ◌≤◌, ◌++◌, ◌∷◌, [], ℕ, List, Option, None, false}
use Rattle.std.proofs.Common.{length, sym, ap, subst, arith, inl, inr}
use Rattle.std.proofs.lemmas.List.{append-nil, length-append}
use Rattle.x12_bytes.specs.HeaderTest.{is_head}
use Rattle.env_index.proofs.ForAbove.{head_within}
use Rattle.whole_interchanges.specs.Batches.{whole_end}
use Rattle.whole_interchanges.specs.Begun.{may_begin}
use Rattle.whole_interchanges.specs.Scouting.{Advances, IsInside, IsLeft, Stands}
use Rattle.whole_interchanges.specs.declared.scout.Advanced.{Advanced}
use Rattle.whole_interchanges.specs.declared.scout.Inside.{Inside}
use Rattle.gather_files.specs.ClosingBytes.{blanks}
use Rattle.gather_files.specs.Gathered.{HoldsInterchanges}
use Rattle.gather_files.proofs.Blanks.{blanks_break}
use Rattle.gather_files.specs.Closing.{PutsBehind}
use Rattle.gather_files.specs.EndsByLayers.{EndsByLayers}
use Rattle.gather_files.proofs.Behind.{blanks_behind, inside_own, one_more}
use Rattle.gather_files.proofs.Sealing.{none_open, seals}
use Rattle.gather_files.proofs.closing.spaced.Goals as goal

is_spaced : (file held bytes : List ℕ) → held ≡ file → bytes ≡ held ++ blanks → bytes ≡ file ++ blanks
is_spaced file held bytes same is = is ∙ ap (λ (l : List ℕ). l ++ blanks) same

-- no header can turn out to begin there
none_begins : (file : List ℕ) (q : ℕ) → q < length (file ++ blanks) → may_begin (file ++ blanks) q ≡ false
none_begins file =
    subst (λ (l : List ℕ). (q : ℕ) → q < length l → may_begin l q ≡ false) (ap (λ (l : List ℕ). file ++ l) (append-nil blanks))
    (blanks_break file [] (λ k lt. absurd (omega (arith, lt))))

pub returns-in-None : goal.returns-in-None
returns-in-None c = λ kept.
    (let file : List ℕ = c.args.file.now in
    let a : Advanced = c.from_the_front-count.result in
    let bytes : List ℕ = c.extend_from_slice.new.self.items in
    let is : bytes ≡ file ++ blanks =
    is_spaced file c.in_ok-bytes.bytes.items bytes c.in_ok-bytes.ensures.items c.in_ok-extend_from_slice.ensures.items in
    let advances : Advances bytes 0 a = subst (λ (l : List ℕ). Advances l 0 a) c.as_slice.ensures.value c.from_the_front-count.ensures in
    let within : a.scout.at ≤ length bytes = subst (λ (o : Option Inside). Stands bytes a.scout.at o) c.in-None.is advances.stands in
    let none : (q : ℕ) → a.scout.at ≤ q → is_head bytes q ≡ false =
    subst (λ (o : Option Inside). IsLeft bytes a.scout.at o) c.in-None.is advances.left in
    let closed : (q : ℕ) → q < length bytes → may_begin bytes q ≡ false =
    subst (λ (l : List ℕ). (q : ℕ) → q < length l → may_begin l q ≡ false) (sym is) (none_begins file) in
    record {
      holds = subst (HoldsInterchanges bytes) (sym advances.count)
          (none_open bytes a.scout.at advances.whole advances.chain within none closed);
      some = (let n : a.count ≤ length bytes = omega (arith, advances.few, within) in n);
      ends = subst (λ (l : List ℕ). EndsByLayers file l 16 c.end_after-end.result) c.as_slice-in-None.ensures.value
          (c.end_after-end.ensures.ends file 16 (omega arith));
      whole = λ w. absurd (c.end_after-end.ensures.put w);
      few = omega arith;
      puts = inl (subst (λ (l : List ℕ). PutsBehind file l 16) (sym is) (blanks_behind file));
    })

pub returns-in_ok-push-in-Some : goal.returns-in_ok-push-in-Some
returns-in_ok-push-in-Some c = λ kept.
    (let file : List ℕ = c.args.file.now in
    let a : Advanced = c.from_the_front-count.result in
    let i : Inside = c.in-Some.inside in
    let t : ℕ = i.delims.terminator in
    let before : List ℕ = c.extend_from_slice.new.self.items in
    let is : before ≡ file ++ blanks =
    is_spaced file c.in_ok-bytes.bytes.items before c.in_ok-bytes.ensures.items c.in_ok-extend_from_slice.ensures.items in
    let advances : Advances before 0 a = subst (λ (l : List ℕ). Advances l 0 a) c.as_slice.ensures.value c.from_the_front-count.ensures in
    let stands : IsInside before a.scout.at i = subst (λ (o : Option Inside). Stands before a.scout.at o) c.in-Some.is advances.stands in
    let left : whole_end before a.scout.at ≡ None =
    subst (λ (o : Option Inside). IsLeft before a.scout.at o) c.in-Some.is advances.left in
    let closed : (q : ℕ) → q < length before → may_begin before q ≡ false =
    subst (λ (l : List ℕ). (q : ℕ) → q < length l → may_begin l q ≡ false) (sym is) (none_begins file) in
    let bytes : c.push.new.self.items ≡ before ++ t ∷ [] = c.in_ok-push-in-Some.ensures.items in
    let holds : HoldsInterchanges (before ++ t ∷ []) (a.count + 1) =
    subst (HoldsInterchanges (before ++ t ∷ [])) (ap (λ (n : ℕ). n + 1) (sym advances.count))
    (seals before a.scout.at advances.whole i advances.chain stands left closed) in
    let few : a.count + 1 ≤ length (before ++ t ∷ []) =
    omega (arith, advances.few, head_within before a.scout.at stands.head, length-append before (t ∷ [])) in
    record {
      holds = subst (λ (l : List ℕ). HoldsInterchanges l (a.count + 1)) (sym bytes) holds;
      some = subst (λ (l : List ℕ). a.count + 1 ≤ length l) (sym bytes) few;
      ends = subst (λ (l : List ℕ). EndsByLayers file l 17 c.end_after-end-in-Some.result) c.as_slice-in-Some.ensures.value
          (c.end_after-end-in-Some.ensures.ends file 17 (omega arith));
      whole = λ w. absurd (c.end_after-end-in-Some.ensures.put w);
      few = omega arith;
      puts = inl (subst (λ (l : List ℕ). PutsBehind file l 17) (sym bytes)
          (one_more file before 16 t (subst (λ (l : List ℕ). PutsBehind file l 16) (sym is) (blanks_behind file))
          (inr (inside_own before a.scout.at i stands))));
    })
