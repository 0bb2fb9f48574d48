-- The lines of warnings, one more of which is added.
use Rattle.std.proofs.Common.{◌≡◌, ◌<◌, ◌+◌, ◌++◌, ◌∙◌, ℕ, List, add-one, ap, append_assoc, drop, drop-cons, get_or, length, sym}
use Rattle.check_command.specs.Lines.{warning_line, warning_lines}

next : (path : List ℕ) (ws : List (List ℕ)) (i : ℕ) (w : List ℕ) → i < length ws → w ≡ get_or ws i w
    → warning_lines path (drop i ws) ≡ warning_line path w ++ warning_lines path (drop (i + 1) ws)
next path ws i w h o =
    rw (add-one) (ap (λ (xs : List (List ℕ)). warning_lines path xs) (drop-cons ws i w h))
    ∙ ap (λ (y : List ℕ). warning_line path y ++ warning_lines path (drop (i + 1) ws)) (sym o)

pub more_lines : (path : List ℕ) (ws : List (List ℕ)) (i : ℕ) (w old new : List ℕ) → i < length ws → w ≡ get_or ws i w
    → new ≡ old ++ warning_line path w
    → new ++ warning_lines path (drop (i + 1) ws) ≡ old ++ warning_lines path (drop i ws)
more_lines path ws i w old new h o pushed =
    ap (λ (x : List ℕ). x ++ warning_lines path (drop (i + 1) ws)) pushed
    ∙ append_assoc old (warning_line path w) (warning_lines path (drop (i + 1) ws))
    ∙ ap (λ (x : List ℕ). old ++ x) (sym (next path ws i w h o))
