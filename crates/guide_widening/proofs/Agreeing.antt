-- Where no difference narrows: small changes, one by one.
use Rattle.std.proofs.Common.{◌≡◌, ℕ, List, [], ◌∷◌, ◌++◌, Bool, true, false, Option, Some, None, refl, sym, ap, ◌∙◌, arith}
use Rattle.std.specs.Prelude.{◌&&◌, ◌==◌, nat_le, if◌then◌else◌}
use Rattle.std.specs.List.{list_all}
use Rattle.std.proofs.lemmas.Bool.{eqb-true, le-leb}
use Rattle.std.proofs.lemmas.List.Folds.{list_all-append}
use Rattle.guide_tree.specs.declared.element.ElementType.{ElementType}
use Rattle.guide_tree.specs.declared.element.ElementType.TheVariants.{Text, Identifier, Number, Decimal, Date, Time}
use Rattle.guide_tree.specs.declared.element.Requirement.{Requirement}
use Rattle.guide_tree.specs.declared.element.Requirement.TheVariants.{Mandatory, Optional}
use Rattle.hub_kinds.specs.Words.{contains_text}
use Rattle.guide_widening.specs.declared.difference.At.{At}
use Rattle.guide_widening.specs.declared.difference.Change.{Change}
use Rattle.guide_widening.specs.declared.difference.Change.TheVariants.{Narrower, Wider, Other}
use Rattle.guide_widening.specs.declared.difference.Difference.{Difference}
use Rattle.guide_widening.specs.declared.difference.Key.{Key}
use Rattle.guide_widening.specs.declared.difference.Value.{Value}
use Rattle.guide_widening.specs.declared.difference.Value.TheVariants as value
use Rattle.guide_widening.specs.Changes.{is_widening, said, unless, least_change, most_change, asked_change, requirement_change}
use Rattle.guide_widening.specs.Changes.{type_change}
use Rattle.guide_widening.specs.Changes.{gone_texts, items_differences, new_texts}
use Rattle.guide_widening.specs.Rows.{are_texts_of, is_wider_requirement, is_wider_type, is_wider_alphabet}

-- the test whether none of these differences narrows has a result
pub record Says (found : List Difference) (result : Bool) : Type 0 where
  pub is : list_all is_widening found ≡ result

pub both : {xs ys : List Difference} {a b : Bool} → Says xs a → Says ys b → Says (xs ++ ys) (a && b)
both {xs = xs} {ys = ys} {a = a} p q = record {
  is = list_all-append is_widening xs ys ∙ ap (λ (x : Bool). x && list_all is_widening ys) p.is ∙ ap (λ (y : Bool). a && y) q.is;
}

pub turn : {xs : List Difference} {a b : Bool} → Says xs a → a ≡ b → Says xs b
turn p e = record { is = p.is ∙ e }

pub itself : (xs : List Difference) → Says xs (list_all is_widening xs)
itself xs = record { is = refl }

abbrev pub keeps : Option Change → Bool
keeps None = true
keeps (Some Narrower) = false
keeps (Some Wider) = true
keeps (Some Other) = false

says : (at : At) (key : Key) (change : Option Change) (old new : Value) → list_all is_widening (said at key change old new) ≡ keeps change
says at key None old new = refl
says at key (Some Narrower) old new = refl
says at key (Some Wider) old new = refl
says at key (Some Other) old new = refl

pub told : (at : At) (key : Key) (change : Option Change) (old new : Value) (result : Bool) → keeps change ≡ result
    → Says (said at key change old new) result
told at key change old new result e = record { is = says at key change old new ∙ e }

pub keeps_narrower : (b : Bool) → keeps (unless b Narrower) ≡ b
keeps_narrower true = refl
keeps_narrower false = refl

pub keeps_other : (b : Bool) → keeps (unless b Other) ≡ b
keeps_other true = refl
keeps_other false = refl

pub keeps_wider : (b : Bool) → keeps (unless b Wider) ≡ true
keeps_wider true = refl
keeps_wider false = refl

pub keeps_if : (b : Bool) → keeps (Some (if b then Wider else Narrower)) ≡ b
keeps_if true = refl
keeps_if false = refl

pub keeps_least : (a b : ℕ) → keeps (least_change a b) ≡ nat_le b a
keeps_least a b = by (a == b) refl
  where
    by : (e : Bool) → (a == b) ≡ e → keeps (if e then None else Some (if nat_le b a then Wider else Narrower)) ≡ nat_le b a
    by true h = let same : a ≡ b = eqb-true a b h in sym (le-leb b a (omega (arith, same)))
    by false h = keeps_if (nat_le b a)

pub keeps_most : (a b : ℕ) → keeps (most_change a b) ≡ nat_le a b
keeps_most a b = by (a == b) refl
  where
    by : (e : Bool) → (a == b) ≡ e → keeps (if e then None else Some (if nat_le a b then Wider else Narrower)) ≡ nat_le a b
    by true h = let same : a ≡ b = eqb-true a b h in sym (le-leb a b (omega (arith, same)))
    by false h = keeps_if (nat_le a b)

pub keeps_wide : (old new : Bool) → keeps (asked_change new old) ≡ is_wider_alphabet old new
keeps_wide true true = refl
keeps_wide true false = refl
keeps_wide false true = refl
keeps_wide false false = refl

pub keeps_requirement : (old new : Requirement) → keeps (requirement_change old new) ≡ is_wider_requirement old new
keeps_requirement Mandatory Mandatory = refl
keeps_requirement Mandatory Optional = refl
keeps_requirement Optional Mandatory = refl
keeps_requirement Optional Optional = refl

pub keeps_type : (old new : ElementType) → keeps (type_change old new) ≡ is_wider_type old new
keeps_type Text Text = refl
keeps_type Text Identifier = refl
keeps_type Text (Number m) = refl
keeps_type Text Decimal = refl
keeps_type Text Date = refl
keeps_type Text Time = refl
keeps_type Identifier Text = refl
keeps_type Identifier Identifier = refl
keeps_type Identifier (Number m) = refl
keeps_type Identifier Decimal = refl
keeps_type Identifier Date = refl
keeps_type Identifier Time = refl
keeps_type (Number n) new = keeps_other (is_wider_type (Number n) new)
keeps_type Decimal new = keeps_other (is_wider_type Decimal new)
keeps_type Date new = keeps_other (is_wider_type Date new)
keeps_type Time new = keeps_other (is_wider_type Time new)

-- of items that fail a test
module _ {X : Type 0} (test : X → Bool) (at : At) (key : Key) (old new : X → Value) where
  pub items_narrower : (xs : List X) → Says (items_differences test at key Narrower old new xs) (list_all test xs)
  items_narrower [] = record { is = refl }
  items_narrower (x ∷ xs) =
      both (told at key (unless (test x) Narrower) (old x) (new x) (test x) (keeps_narrower (test x))) (items_narrower xs)

  pub items_wider : (xs : List X) → Says (items_differences test at key Wider old new xs) true
  items_wider [] = record { is = refl }
  items_wider (x ∷ xs) =
      both (told at key (unless (test x) Wider) (old x) (new x) true (keeps_wider (test x))) (items_wider xs)

-- of texts that other ones don't have
module _ (at : At) (key : Key) (other : List (List ℕ)) where
  pub gone_narrower : (texts : List (List ℕ)) → Says (gone_texts at key other texts) (are_texts_of other texts)
  gone_narrower [] = record { is = refl }
  gone_narrower (text ∷ texts) =
      both (told at key (unless (contains_text other text) Narrower) (value.Text text) value.Nothing (contains_text other text)
      (keeps_narrower (contains_text other text))) (gone_narrower texts)

  pub new_wider : (texts : List (List ℕ)) → Says (new_texts at key other texts) true
  new_wider [] = record { is = refl }
  new_wider (text ∷ texts) =
      both (told at key (unless (contains_text other text) Wider) value.Nothing (value.Text text) true
      (keeps_wider (contains_text other text))) (new_wider texts)

pub with_true : (a : Bool) → (a && true) ≡ a
with_true true = refl
with_true false = refl

-- how tests are joined
pub three : (a b c : Bool) → (a && (b && c)) ≡ ((a && b) && c)
three true b c = refl
three false b c = refl

pub four : (a b c d : Bool) → (a && (b && (c && d))) ≡ (((a && b) && c) && d)
four true true true d = refl
four true true false d = refl
four true false c d = refl
four false b c d = refl

pub five : (a b c d e : Bool) → (a && (b && (c && (d && e)))) ≡ ((((a && b) && c) && d) && e)
five true b c d e = four b c d e
five false b c d e = refl
