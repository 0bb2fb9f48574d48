-- What is open, or may begin, is so after other bytes, too.
use Rattle.std.proofs.Common.{◌≡◌, ℕ, ◌+◌, List, ◌++◌, length, sym, ap, ◌∙◌, append_assoc, arith}
use Rattle.std.specs.Prelude.{◌↔◌}
use Rattle.night_definition.specs.Header.{is_head}
use Rattle.night_definition.specs.Interchanges.{Reach, reach_at}
use Rattle.gather_files.specs.Unfinished.{IsOpen, MayBegin}
use Rattle.gather_files.proofs.Onward.{head_moved, reach_moved}

module _ (before last : List ℕ) where
  abbrev by : ℕ
  by = length before

  place : by ≡ by + 0
  place = omega arith

  pub head_past : (text : List ℕ) → is_head (before ++ text) by ≡ is_head text 0
  head_past text = ap (is_head (before ++ text)) place ∙ head_moved before text 0

  end_past : (text : List ℕ) → (reach_at (before ++ text) by).end ≡ by + (reach_at text 0).end
  end_past text =
      ap (λ (n : ℕ). (reach_at (before ++ text) n).end) place ∙ ap (λ (r : Reach). r.end) (reach_moved before text 0)

  end_more : (more : List ℕ) → (reach_at ((before ++ last) ++ more) by).end ≡ by + (reach_at (last ++ more) 0).end
  end_more more = ap (λ (l : List ℕ). (reach_at l by).end) (append_assoc before last more) ∙ end_past (last ++ more)

  pub open_past : IsOpen (before ++ last) by ↔ IsOpen last 0
  open_past = (
    λ o. record {
      more = o.more;
      elsewhere = λ same. o.elsewhere (end_more o.more ∙ ap (λ (n : ℕ). by + n) same ∙ sym (end_past last));
    },
    λ o. record {
      more = o.more;
      elsewhere = λ same. o.elsewhere
          (let e : (reach_at (last ++ o.more) 0).end ≡ (reach_at last 0).end = omega (arith, same, end_more o.more, end_past last) in e);
    },
  )

  pub begun_past : MayBegin (before ++ last) by ↔ MayBegin last 0
  begun_past = (
    λ m. record {
      not_yet = sym (head_past last) ∙ m.not_yet;
      more = m.more;
      completed = sym (head_past (last ++ m.more)) ∙ ap (λ (l : List ℕ). is_head l by) (sym (append_assoc before last m.more))
          ∙ m.completed;
    },
    λ m. record {
      not_yet = head_past last ∙ m.not_yet;
      more = m.more;
      completed = ap (λ (l : List ℕ). is_head l by) (append_assoc before last m.more) ∙ head_past (last ++ m.more) ∙ m.completed;
    },
  )
