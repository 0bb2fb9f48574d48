-- Bytes that a reader declares, over several reads.
use Rattle.std.proofs.Common.{ℕ, List, ◌++◌, Option, Some, None, refl, sym, ap, ◌∙◌}
use Rattle.std.proofs.lemmas.List.{append_assoc}
use Rattle.std.specs.Io.KnownBytes.{Consumes, Keeps}

pub keeps_itself : (a : Option (List ℕ)) → Keeps a a
keeps_itself None = tt
keeps_itself (Some xs) = refl

pub keeps_on : (a b c : Option (List ℕ)) → Keeps a b → Keeps b c → Keeps a c
keeps_on None b c first second = tt
keeps_on (Some xs) None c first second = absurd first
keeps_on (Some xs) (Some ys) None first second = absurd second
keeps_on (Some xs) (Some ys) (Some zs) first second = second ∙ first

pub keeps_then : (a b c : Option (List ℕ)) (bytes : List ℕ) → Keeps a b → Consumes b c bytes → Consumes a c bytes
keeps_then None b c bytes first second = tt
keeps_then (Some xs) None c bytes first second = absurd first
keeps_then (Some xs) (Some ys) None bytes first second = absurd second
keeps_then (Some xs) (Some ys) (Some zs) bytes first second = sym first ∙ second

pub consumes_on : (a b c : Option (List ℕ)) (xs ys : List ℕ) → Consumes a b xs → Consumes b c ys → Consumes a c (xs ++ ys)
consumes_on None b c xs ys first second = tt
consumes_on (Some as_) None c xs ys first second = absurd first
consumes_on (Some as_) (Some bs) None xs ys first second = absurd second
consumes_on (Some as_) (Some bs) (Some cs) xs ys first second = first ∙ ap (λ (l : List ℕ). xs ++ l) second ∙ sym (append_assoc xs ys cs)
