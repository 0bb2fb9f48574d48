-- The text of a group of written sets, by its three parts.
use Rattle.std.proofs.Common.{◌≡◌, ◌<◌, ℕ, List, [], ◌∷◌, ◌++◌, length, map, get_or, sym, ap, arith}
use Rattle.partner_setup.specs.Setup.{SetupValue}
use Rattle.partner_setup.specs.declared.partner.Partner.{Partner}
use Rattle.x12_write.specs.Group.{group_header_text, group_trailer_text, texts_in_row}
use Rattle.mailbox.specs.Rendered.{RenderedValue, group_of, header_of, text_in}

pub group_parts : (setup : SetupValue) (p : Partner) (at : List ℕ) (control : ℕ) (sets : List RenderedValue) (first : RenderedValue)
    → 0 < length sets → first ≡ get_or sets 0 first
    → group_of setup p at control sets
    ≡ (group_header_text p.delims at (header_of setup p control first.key) ++ texts_in_row (map text_in sets))
    ++ group_trailer_text p.delims (length (map text_in sets)) control
group_parts setup p at control [] first some is = absurd (omega arith)
group_parts setup p at control (x ∷ xs) first some is =
    ap (λ (f : RenderedValue). (group_header_text p.delims at (header_of setup p control f.key)
    ++ texts_in_row (map text_in (x ∷ xs)))
    ++ group_trailer_text p.delims (length (map text_in (x ∷ xs))) control) (sym is)
