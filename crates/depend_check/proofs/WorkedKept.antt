-- Dependencies kept and broken by segments with their slots, worked.
use Rattle.std.proofs.Common.{◌≡◌, ℕ, List, [], ◌∷◌, codes, Bool, true, false, not, ◌||◌, refl, sym, subst, arith, true≢false}
use Rattle.std.specs.Prelude.{IsTrue, IsFalse}
use Rattle.std.specs.List.{Contains, list_any, list_all}
use Rattle.std.proofs.lemmas.Bool.{not-true}
use Rattle.std.proofs.lemmas.List.Elements.{All-contains}
use Rattle.std.proofs.lemmas.List.Sums.{AllPass-from_list_all}
use Rattle.x12_segs.specs.Words.{parts}
use Rattle.guide_tree.specs.declared.rows.Dependency.{Dependency}
use Rattle.guide_tree.specs.declared.rows.DependencyKind.TheVariants as kind
use Rattle.guide_tree.specs.Words.{Given}
use Rattle.elem_rules.proofs.ForAbove.{contains_one}
use Rattle.depend_check.specs.Kept.{IsTargetKept, AreDependenciesKept}
use Rattle.depend_check.specs.Standing.{stands_at, fills, triggers}
use Rattle.depend_check.proofs.Worked.{slot, man, man_rows, delims, where_packed}

abbrev at_hl : List ℕ → Given
at_hl text = (parts 42 text, slot 3 (codes "HL") [])

abbrev at_man : List ℕ → Given
at_man text = (parts 42 text, slot 4 man man_rows)

-- of each segment of the slot a test says so
after : (a b : Bool) → (not a || b) ≡ true → a ≡ true → b ≡ true
after true b h e = h
after false b h e = cc

each_of : (label : List ℕ) (test : Given → Bool) (xs : List Given) → list_all (λ x. not (stands_at label x) || test x) xs ≡ true
    → (x : Given) → Contains xs x → IsTrue (stands_at label x) → test x ≡ true
each_of label test xs all x c =
    after (stands_at label x) (test x)
    (All-contains (λ (y : Given). (not (stands_at label y) || test y) ≡ true) xs x (AllPass-from_list_all _ xs all) c)

each_filled : (e : ℕ) (xs : List Given) → list_all (λ x. not (stands_at man x) || fills delims e x) xs ≡ true
    → (x : Given) → Contains xs x → IsTrue (stands_at man x) → IsTrue (fills delims e x)
each_filled e xs all = each_of man (fills delims e) xs all

none_filled : (e : ℕ) (xs : List Given) → list_all (λ x. not (stands_at man x) || not (fills delims e x)) xs ≡ true
    → (x : Given) → Contains xs x → IsTrue (stands_at man x) → IsFalse (fills delims e x)
none_filled e xs all x c u = not-true (fills delims e x) (each_of man (λ y. not (fills delims e y)) xs all x c u)

-- a slot that is needed, and one that is banned
needed : IsTargetKept delims (at_hl (codes "HL*1**P") ∷ at_man (codes "MAN*GM*1") ∷ []) man kind.Need 0
needed = refl

not_there : IsTargetKept delims (at_hl (codes "HL*1**P") ∷ []) man kind.Need 0 → ⊥
not_there h = true≢false (sym h)

banned : IsTargetKept delims (at_hl (codes "HL*1**P") ∷ []) man kind.Ban 0
banned = refl

there : IsTargetKept delims (at_hl (codes "HL*1**P") ∷ at_man (codes "MAN*GM*1") ∷ []) man kind.Ban 0 → ⊥
there h = true≢false h

-- MAN02 needed on each MAN, and on no other segment; separators alone don't fill it; without MAN nothing is asked
element_needed : IsTargetKept delims (at_hl (codes "HL") ∷ at_man (codes "MAN*GM*1") ∷ at_man (codes "MAN**2") ∷ []) man kind.Need 2
element_needed = each_filled 2 (at_hl (codes "HL") ∷ at_man (codes "MAN*GM*1") ∷ at_man (codes "MAN**2") ∷ []) refl

element_of_none : IsTargetKept delims (at_hl (codes "HL*1**P") ∷ []) man kind.Need 2
element_of_none = each_filled 2 (at_hl (codes "HL*1**P") ∷ []) refl

element_missing : IsTargetKept delims (at_man (codes "MAN*GM*1") ∷ at_man (codes "MAN*GM*>^") ∷ []) man kind.Need 2 → ⊥
element_missing h = true≢false (sym (h (at_man (codes "MAN*GM*>^")) (1, omega arith, refl) refl))

-- and banned
element_banned : IsTargetKept delims (at_hl (codes "HL*1*1") ∷ at_man (codes "MAN*GM") ∷ at_man (codes "MAN*GM*>") ∷ []) man kind.Ban 2
element_banned = none_filled 2 (at_hl (codes "HL*1*1") ∷ at_man (codes "MAN*GM") ∷ at_man (codes "MAN*GM*>") ∷ []) refl

element_there : IsTargetKept delims (at_man (codes "MAN*GM") ∷ at_man (codes "MAN*GM*1") ∷ []) man kind.Ban 2 → ⊥
element_there h = true≢false (h (at_man (codes "MAN*GM*1")) (1, omega arith, refl) refl)

-- nothing is asked where no segment of the slot has the code; where the last of three has it, it is
untriggered : AreDependenciesKept (where_packed kind.Need man 0 ∷ []) delims (at_hl (codes "HL*1**S") ∷ at_hl (codes "HL*P*1*O") ∷ [])
untriggered d c t =
    let e = contains_one (where_packed kind.Need man 0) d c in
    let u = subst (λ (x : Dependency). IsTrue (list_any (triggers x) (at_hl (codes "HL*1**S") ∷ at_hl (codes "HL*P*1*O") ∷ []))) e t in
    absurd (true≢false (sym u))

triggered : AreDependenciesKept (where_packed kind.Need man 0 ∷ []) delims
    (at_hl (codes "HL*1**S") ∷ at_hl (codes "HL*2*1*O") ∷ at_hl (codes "HL*3*2*P") ∷ []) → ⊥
triggered kept = true≢false (sym (kept (where_packed kind.Need man 0) (0, omega arith, refl) refl))
