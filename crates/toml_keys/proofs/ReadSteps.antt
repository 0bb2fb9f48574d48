-- Readings one after another, of which each adds to what was read.
use Rattle.std.proofs.Common.{◌≡◌, List, [], ◌∷◌, ◌++◌, Option, Some, None, option_map, refl, sym, ap, ◌∙◌, append_assoc}
use Rattle.toml_keys.specs.declared.text_fault.TextFault.{TextFault}
use Rattle.toml_keys.specs.declared.text_fault.TextFault.TheVariants as fault
use Rattle.toml_keys.specs.Reads.{◌>>=◌, Lacks}

-- what isn't read lets nothing be read
pub lacks_all : {A B : Type 0} (e : TextFault) (o : Option A) (k : A → Option B) (f : B → B) (all : Option B)
    → Lacks e o → option_map f (o >>= k) ≡ all → Lacks e all
lacks_all fault.NoMemory o k f all h a = tt
lacks_all fault.Malformed o k f all h a = sym a ∙ ap (λ (x : Option _). option_map f (x >>= k)) h

one_more : {A : Type 0} (done : List A) (x : A) (o : Option (List A))
    → option_map (λ ys. (done ++ x ∷ []) ++ ys) o ≡ option_map (λ ys. done ++ ys) (option_map (λ ys. x ∷ ys) o)
one_more done x None = refl
one_more done x (Some ys) = ap Some (append_assoc done (x ∷ []) ys)

-- what is read is added
pub adds : {A : Type 0} (done : List A) (x : A) (o : Option A) (rest all : Option (List A)) → o ≡ Some x
    → option_map (λ ys. done ++ ys) (o >>= λ y. option_map (λ ys. y ∷ ys) rest) ≡ all
    → option_map (λ ys. (done ++ x ∷ []) ++ ys) rest ≡ all
adds done x o rest all e a =
    one_more done x rest ∙ sym (ap (λ (z : Option _). option_map (λ ys. done ++ ys)
    (z >>= λ y. option_map (λ ys. y ∷ ys) rest)) e) ∙ a
