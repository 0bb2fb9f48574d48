-- Readings with and without a first fault, step by step.
use Rattle.std.proofs.Common.{◌≡◌, ℕ, ℤ, pos, negsuc, List, ◌∷◌, Option, Some, None, Result, Ok, Err, Bool, true, false, cond}
use Rattle.std.proofs.Common.{option_map, option_and_then, refl, sym, ap, ◌∙◌, bytes_eq}
use Rattle.std.proofs.Math.Path.{fun_ext}
use Rattle.std.proofs.lemmas.Slice.Eq.{bytes_eq-Decides}
use Rattle.std.proofs.lemmas.Bool.Decides.{same_from_decides}
use Rattle.std.proofs.lemmas.Option.{option_and_then_some}
use Rattle.std.specs.Option.{option_map_or}
use Rattle.toml.specs.Data.{Data, Items, no_items, item, Members, get_member, as_integer, as_array, as_str}
use Rattle.toml_keys.specs.Refusals.{Refusal, missing, wrong_kind, unknown}
use Rattle.toml_keys.specs.Keys.{if_known}
use Rattle.toml_keys.specs.Tables.{◌>>=◌ as ◌⊳◌, asked, required_of, optional_of, count_of_integer, count_of_data, each_item, list_in}
use Rattle.toml_keys.specs.Tables.{are_tables, tables_in}
use Rattle.toml_keys.specs.Tables as then
use Rattle.guide_toml.specs.Values.{text_item, texts_in}
use Rattle.night_definition.specs.Tables.{required, optional, natural, number, each, texts}

-- all that a reading with a first fault gives, seen by view, a reading without one gives too
pub record IsGiven {A B : Type 0} (view : A → B) (r : Result A Refusal) (o : Option B) : Type 0 where
  pub is : (x : A) → r ≡ Ok x → o ≡ Some (view x)

-- two readings that go on alike
pub same_steps : {A B : Type 0} (f g : A → Option B) (o : Option A) → ((x : A) → f x ≡ g x) → option_and_then f o ≡ option_and_then g o
same_steps f g o same = ap (λ (h : _ → Option _). option_and_then h o) (fun_ext same)

abbrev pub nothing : {A B : Type 0} → A → Option B
nothing x = None

pub none_behind : {A B : Type 0} (o : Option A) → option_and_then (nothing {A = A} {B = B}) o ≡ None
none_behind None = refl
none_behind (Some x) = refl

-- equal texts are equal either way round
pub turned : (a b : List ℕ) → bytes_eq a b ≡ bytes_eq b a
turned a b =
    same_from_decides (bytes_eq a b) (bytes_eq b a) (bytes_eq-Decides a b)
    (λ e. sym ((bytes_eq-Decides b a).0 e), λ e. (bytes_eq-Decides b a).1 (sym e))

-- one more of a list of tests
pub first_if : {A : Type 0} (x : A) (s t : Bool) (a b : Option A) → s ≡ t → a ≡ b → cond s (Some x) a ≡ cond t (Some x) b
first_if x s t a b e f = ap (λ (u : Bool). cond u (Some x) a) e ∙ ap (cond t (Some x)) f

pub asked_is : {A : Type 0} (key : List ℕ) (o : Option A) (x : A) → asked key o ≡ Ok x → o ≡ Some x
asked_is key None x e = let no : Err (wrong_kind key) ≡ Ok x = e in cc
asked_is key (Some y) x e = let is : Ok y ≡ Ok x = e in cc

pub required_is : {A : Type 0} (old new : Data → Option A) (key : List ℕ) (o : Option Data) → ((d : Data) → old d ≡ new d) → (x : A)
    → required_of old key o ≡ Ok x → option_and_then new o ≡ Some x
required_is old new key None same x e = let no : Err (missing key) ≡ Ok x = e in cc
required_is old new key (Some d) same x e = sym (same d) ∙ asked_is key (old d) x e

pub optional_is : {A : Type 0} (absent : A) (old new : Data → Option A) (key : List ℕ) (o : Option Data) → ((d : Data) → old d ≡ new d)
    → (x : A) → optional_of absent old key o ≡ Ok x → option_map_or new o (Some absent) ≡ Some x
optional_is absent old new key None same x e = let is : Ok absent ≡ Ok x = e in cc
optional_is absent old new key (Some d) same x e = sym (same d) ∙ asked_is key (old d) x e

bound : {A B C : Type 0} (view : B → C) (f : A → Result B Refusal) (g : A → Option C) (r : Result A Refusal) (o : Option A)
    → ((x : A) → r ≡ Ok x → o ≡ Some x) → ((x : A) → IsGiven view (f x) (g x)) → (y : B) → (r ⊳ f) ≡ Ok y
    → option_and_then g o ≡ Some (view y)
bound view f g (Ok x) o first more y e = ap (option_and_then g) (first x refl) ∙ (more x).is y e
bound view f g (Err r) o first more y e = let no : Err r ≡ Ok y = e in cc

-- a key that has to be there, and what is read after it
pub needs : {A B C : Type 0} (view : B → C) (f : A → Result B Refusal) (g : A → Option C) (old new : Data → Option A) (key : List ℕ)
    (ms : Members)
    → ((d : Data) → old d ≡ new d) → ((x : A) → IsGiven view (f x) (g x))
    → IsGiven view (then.required old key ms ⊳ f) (option_and_then g (required new key ms))
needs view f g old new key ms same more = record {
  is = bound view f g (then.required old key ms) (required new key ms) (required_is old new key (get_member key ms) same) more;
}

-- a key that may be absent
pub may : {A B C : Type 0} (view : B → C) (f : A → Result B Refusal) (g : A → Option C) (absent : A) (old new : Data → Option A)
    (key : List ℕ) (ms : Members)
    → ((d : Data) → old d ≡ new d) → ((x : A) → IsGiven view (f x) (g x))
    → IsGiven view (then.optional absent old key ms ⊳ f) (option_and_then g (optional absent new key ms))
may view f g absent old new key ms same more = record {
  is = bound view f g (then.optional absent old key ms) (optional absent new key ms)
      (optional_is absent old new key (get_member key ms) same) more;
}

pub gives : {A B : Type 0} (view : A → B) (x : A) → IsGiven view (Ok x) (Some (view x))
gives view x = record { is = λ y e. let is : Ok x ≡ Ok y = e in let same : x ≡ y = cc in ap (λ z. Some (view z)) same }

-- what a step gave
pub of_ok : {A B P : Type 0} (f : A → Result B Refusal) (r : Result A Refusal) (y : B) → (r ⊳ f) ≡ Ok y
    → ((x : A) → r ≡ Ok x → f x ≡ Ok y → P) → P
of_ok f (Ok x) y e k = k x refl e
of_ok f (Err r) y e k = let no : Err r ≡ Ok y = e in cc

-- a key that the other reading passes over
pub skips : {A B C : Type 0} (view : B → C) (f : A → Result B Refusal) (r : Result A Refusal) (o : Option C)
    → ((x : A) → IsGiven view (f x) o) → IsGiven view (r ⊳ f) o
skips view f r o more = record { is = λ y e. of_ok f r y e (λ x is_x e1. (more x).is y e1) }

pub ok_is : {A : Type 0} (x y : A) → (let r : Result A Refusal = Ok x in r ≡ Ok y) → x ≡ y
ok_is x y e = cc

pub known_is : {A : Type 0} (o : Option (List ℕ)) (r : Result A Refusal) (x : A) → if_known o r ≡ Ok x → r ≡ Ok x
known_is None r x e = e
known_is (Some key) r x e = let no : Err (unknown key) ≡ Ok x = e in cc

of_list : (d : Data) (b : Bool) (ds items : Items) → as_array d ≡ Some ds → cond b (Some ds) None ≡ Some items → as_array d ≡ Some items
of_list d true ds items e f = e ∙ f
of_list d false ds items e f = let no : None ≡ Some items = f in cc

-- a list of tables is a list
pub tables_are : (d : Data) (items : Items) → tables_in d ≡ Some items → as_array d ≡ Some items
tables_are d items e = option_and_then_some _ (as_array d) items e (λ ds is_ds e1. of_list d (are_tables ds) ds items is_ds e1)

-- values at keys
natural_is : (z : ℤ) → count_of_integer z ≡ natural z
natural_is (pos n) = refl
natural_is (negsuc n) = refl

pub number_is : (d : Data) → count_of_data d ≡ number d
number_is d = same_steps count_of_integer natural (as_integer d) natural_is

pub each_is : {A : Type 0} (old new : Data → Option A) → ((d : Data) → old d ≡ new d) → (ds : Items) → each_item old ds ≡ each new ds
each_is old new same no_items = refl
each_is old new same (item d ds) =
    ap (option_and_then (λ x. option_map (λ (xs : List _). x ∷ xs) (each_item old ds))) (same d)
    ∙ ap (λ (more : Option (List _)). option_and_then (λ x. option_map (λ (xs : List _). x ∷ xs) more) (new d)) (each_is old new same ds)

pub texts_are : {A : Type 0} (old new : List ℕ → Option A) → ((t : List ℕ) → old t ≡ new t) → (d : Data) → texts_in old d ≡ texts new d
texts_are old new same d =
    same_steps (each_item (text_item old)) (each (λ e. option_and_then new (as_str e))) (as_array d)
    (each_is (text_item old) (λ e. option_and_then new (as_str e)) (λ e. same_steps old new (as_str e) same))
