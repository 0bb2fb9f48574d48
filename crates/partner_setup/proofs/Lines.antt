-- The lines of counters, one partner on.
use Rattle.std.proofs.Common.{◌≡◌, ◌<◌, ◌+◌, ◌++◌, ◌∷◌, ℕ, List, drop, length, get_or, sym, ap, ◌∙◌, append_assoc}
use Rattle.std.proofs.lemmas.List.{drop_more}
use Rattle.hub_kinds.specs.declared.counters.Counters.{Counters}
use Rattle.partner_setup.specs.CountersText.{counters_lines, counter_lines}
use Rattle.partner_setup.specs.declared.partner.Partner.{Partner}

lines_at : (ps : List Partner) (next : List Counters) (i : ℕ) (p : Partner) (c d : Counters) → i < length ps → i < length next
    → p ≡ get_or ps i p → c ≡ get_or next i d
    → counters_lines (drop i ps) (drop i next) ≡ counter_lines p.name c ++ counters_lines (drop (i + 1) ps) (drop (i + 1) next)
lines_at ps next i p c d l m is there =
    ap (λ (xs : List Partner). counters_lines xs (drop i next)) (drop_more ps i p l)
    ∙ ap (counters_lines (get_or ps i p ∷ drop (i + 1) ps)) (drop_more next i d m)
    ∙ ap (λ (x : Partner). counter_lines x.name (get_or next i d) ++ counters_lines (drop (i + 1) ps) (drop (i + 1) next)) (sym is)
    ∙ ap (λ (x : Counters). counter_lines p.name x ++ counters_lines (drop (i + 1) ps) (drop (i + 1) next)) (sym there)

pub one_line_on : (out new all : List ℕ) (ps : List Partner) (next : List Counters) (i : ℕ) (p : Partner) (c d : Counters) → i < length ps
    → i < length next → p ≡ get_or ps i p → c ≡ get_or next i d → new ≡ out ++ counter_lines p.name c
    → out ++ counters_lines (drop i ps) (drop i next) ≡ all → new ++ counters_lines (drop (i + 1) ps) (drop (i + 1) next) ≡ all
one_line_on out new all ps next i p c d l m is there added rest =
    ap (λ (xs : List ℕ). xs ++ counters_lines (drop (i + 1) ps) (drop (i + 1) next)) added
    ∙ append_assoc out (counter_lines p.name c) (counters_lines (drop (i + 1) ps) (drop (i + 1) next))
    ∙ ap (λ (xs : List ℕ). out ++ xs) (sym (lines_at ps next i p c d l m is there)) ∙ rest

pub three_behind : (old a b c new : List ℕ) → new ≡ ((old ++ a) ++ b) ++ c → new ≡ old ++ (a ++ (b ++ c))
three_behind old a b c new e = e ∙ append_assoc (old ++ a) b c ∙ append_assoc old a (b ++ c)
