-- X12.5, interchange control header (ISA): the headers of pieces keep the laws.
use Rattle.std.specs.Prelude.{ℕ, List, ◌++◌}
use Rattle.std.proofs.Common.{append_assoc, append-nil, ap, sym, ◌∙◌}
use Rattle.isa_scan.specs.Heads.{heads_in}
use Rattle.isa_scan.specs.declared.heads.HeadAt.{HeadAt}
use Rattle.isa_scan.proofs.ForAbove.{no_heads, heads_both}
use Rattle.env_marks.specs.Laws.{PieceLaws}

abbrev pub heads_under : Unit {0} → List ℕ → ℕ → ℕ → List HeadAt
heads_under u text a b = heads_in text a b

pub heads_laws : PieceLaws heads_under (λ a b. a ++ b)
heads_laws = record {
  empty_left = λ u text a b h l. ap (λ (n : List HeadAt). n ++ heads_in text a b) (no_heads text a);
  empty_right = λ u text a b h l. ap (λ (n : List HeadAt). heads_in text a b ++ n) (no_heads text b) ∙ append-nil (heads_in text a b);
  assoc = λ x y z. append_assoc x y z;
  both = λ u text a b c h k l. sym (heads_both text a b c h k);
}
