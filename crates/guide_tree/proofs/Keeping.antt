-- The least of the pairs of numbers that were kept.
use Rattle.std.proofs.Common.{◌≡◌, ◌<◌, ◌≤◌, ◌⊎◌, inl, inr, Bool, true, false, cond, Option, Some, None, refl, sym}
use Rattle.std.proofs.Common.{subst, arith}
use Rattle.std.proofs.lemmas.Bool.Decides.{nat_tests}
use Rattle.guide_tree.specs.Rivals.{Numbers, is_less, keep_least}

-- m isn't greater than n
abbrev pub IsAtMost : Numbers → Numbers → Type 0
IsAtMost m n = (m.0 < n.0) ⊎ ((m.0 ≡ n.0) × (m.1 ≤ n.1))

abbrev pub HasAtMost : Option Numbers → Numbers → Type 0
HasAtMost None n = ⊥
HasAtMost (Some m) n = IsAtMost m n

pub at_most_trans : (l m n : Numbers) → IsAtMost l m → IsAtMost m n → IsAtMost l n
at_most_trans l m n (inl a) (inl b) = inl (omega arith)
at_most_trans l m n (inl a) (inr b) = let e = b.0 in inl (omega arith)
at_most_trans l m n (inr a) (inl b) = let e = a.0 in inl (omega arith)
at_most_trans l m n (inr a) (inr b) = let e = a.0 in let f = b.0 in let g = a.1 in let h = b.1 in
    inr (omega arith, omega arith)

at_most_self : (m : Numbers) → IsAtMost m m
at_most_self m = inr (refl, omega arith)

has_trans : (r : Option Numbers) (m n : Numbers) → HasAtMost r m → IsAtMost m n → HasAtMost r n
has_trans None m n h a = h
has_trans (Some l) m n h a = at_most_trans l m n h a

-- r is the least of b and those of which P holds
pub record Keeps (P : Numbers → Type 0) (b r : Option Numbers) : Type 0 where
  pub from : (m : Numbers) → r ≡ Some m → (b ≡ Some m) ⊎ P m
  pub before : (m : Numbers) → b ≡ Some m → HasAtMost r m
  pub each : (m : Numbers) → P m → HasAtMost r m

has_from : (r s : Option Numbers) (n : Numbers) → ((m : Numbers) → r ≡ Some m → HasAtMost s m) → HasAtMost r n
    → HasAtMost s n
has_from None s n f h = absurd h
has_from (Some m) s n f h = has_trans s m n (f m refl) h

pub keeps_both : (P Q : Numbers → Type 0) (b r s : Option Numbers) → Keeps P b r → Keeps Q r s
    → Keeps (λ m. P m ⊎ Q m) b s
keeps_both P Q b r s x y = record {
  from = λ m e. elim (y.from m e) [
    | inl f ↦ (elim (x.from m f) [ inl g ↦ inl g | inr p ↦ inr (inl p) ])
    | inr q ↦ inr (inr q)
  ];
  before = λ m e. has_from r s m y.before (x.before m e);
  each = λ m h. elim h [ inl p ↦ has_from r s m y.before (x.each m p) | inr q ↦ y.each m q ];
}

has_same : (b : Option Numbers) (m : Numbers) → b ≡ Some m → HasAtMost b m
has_same b m e = subst (λ (o : Option Numbers). HasAtMost o m) (sym e) (at_most_self m)

pub keeps_none : (b : Option Numbers) → Keeps (λ m. ⊥) b b
keeps_none b = record {
  from = λ m e. inl e;
  before = λ m e. has_same b m e;
  each = λ m h. absurd h;
}

-- the same pairs, said otherwise
pub keeps_as : (P Q : Numbers → Type 0) (b r : Option Numbers) → ((m : Numbers) → P m → Q m)
    → ((m : Numbers) → Q m → P m) → Keeps P b r → Keeps Q b r
keeps_as P Q b r f g x = record {
  from = λ m e. elim (x.from m e) [ inl h ↦ inl h | inr p ↦ inr (f m p) ];
  before = x.before;
  each = λ m q. x.each m (g m q);
}

less_is : (m n : Numbers) → is_less m n ≡ true → IsAtMost m n
less_is m n h = grind (arith, nat_tests)

more_is : (m n : Numbers) → is_less m n ≡ false → IsAtMost n m
more_is m n h = grind (arith, nat_tests)

keep_one : (p m : Numbers) (t : Bool) → is_less m p ≡ t → Keeps (λ n. n ≡ m) (Some p) (cond t (Some m) (Some p))
keep_one p m true h = record {
  from = λ n e. inr (let f : Some n ≡ Some m = sym e in cc);
  before = λ n e. (let f : p ≡ n = cc in subst (IsAtMost m) f (less_is m p h));
  each = λ n e. subst (IsAtMost m) (sym e) (at_most_self m);
}
keep_one p m false h = record {
  from = λ n e. inl e;
  before = λ n e. (let f : p ≡ n = cc in subst (IsAtMost p) f (at_most_self p));
  each = λ n e. subst (IsAtMost p) (sym e) (more_is m p h);
}

pub keeps_one : (b : Option Numbers) (m : Numbers) → Keeps (λ n. n ≡ m) b (keep_least b m)
keeps_one None m = record {
  from = λ n e. inr (let f : Some n ≡ Some m = sym e in cc);
  before = λ n e. (let f : None ≡ Some n = e in cc);
  each = λ n e. subst (IsAtMost m) (sym e) (at_most_self m);
}
keeps_one (Some p) m = keep_one p m (is_less m p) refl
