-- What is said of records is what the definition says of all that were read.
use Rattle.std.proofs.Common.{◌≡◌, ◌↔◌, ◌∙◌, ◌⊎◌, ℕ, Bool, true, false, cond, List, [], Option, Result, Ok, Err, ap, inl, inr, subst, sym}
use Rattle.std.specs.Prelude.{IfOk}
use Rattle.std.specs.List.{filter_map}
use Rattle.record_chain.specs.Chained.{AreChained}
use Rattle.record_chain.specs.declared.night.ReadNight.{ReadNight}
use Rattle.record_review.specs.Records.{night_in}
use Rattle.record_review.specs.Reviewed.{AreClean, GoOn, all_bad, are_unread, night_before, report_text, reviewed_text}
use Rattle.record_review.specs.declared.read.BadRecord.{BadRecord}
use Rattle.record_review.specs.declared.read.RecordRead.{RecordRead}

pub both_ok : {A E : Type 0} (r : Result A E) (P Q S : A → Type 0) → ((x : A) → P x → Q x → S x) → IfOk r P → IfOk r Q → IfOk r S
both_ok (Ok x) P Q S join p q = join x p q
both_ok (Err e) P Q S join p q = tt

pub text_by : (first reads : List RecordRead) (bad : List BadRecord) (before : Option ReadNight) (nights : List ReadNight)
    (text : List ℕ) → are_unread first reads ≡ false → bad ≡ all_bad first reads → before ≡ night_before first
    → nights ≡ filter_map night_in reads → text ≡ report_text bad before nights → text ≡ reviewed_text first reads
text_by first reads bad before nights text some bad_is before_is nights_is is =
    is ∙ ap (λ (b : List BadRecord). report_text b before nights) bad_is
    ∙ ap (λ (n : Option ReadNight). report_text (all_bad first reads) n nights) before_is
    ∙ ap (λ (l : List ReadNight). report_text (all_bad first reads) (night_before first) l) nights_is
    ∙ sym (ap (λ (b : Bool). cond b [] (report_text (all_bad first reads) (night_before first) (filter_map night_in reads))) some)

pub clean_by : (first reads : List RecordRead) (bad : List BadRecord) (before : Option ReadNight) (nights : List ReadNight)
    (status : ℕ) → are_unread first reads ≡ false → bad ≡ all_bad first reads → before ≡ night_before first
    → nights ≡ filter_map night_in reads → ((status ≡ 0) ↔ ((bad ≡ []) × AreChained before nights))
    → (status ≡ 0) ↔ AreClean first reads
clean_by first reads bad before nights status some bad_is before_is nights_is clean =
    let on : (status ≡ 0) ↔ GoOn first reads =
    subst (λ (b : List BadRecord). (status ≡ 0) ↔ ((b ≡ []) × AreChained (night_before first) (filter_map night_in reads))) bad_is
    (subst (λ (n : Option ReadNight). (status ≡ 0) ↔ ((bad ≡ []) × AreChained n (filter_map night_in reads))) before_is
    (subst (λ (l : List ReadNight). (status ≡ 0) ↔ ((bad ≡ []) × AreChained before l)) nights_is clean)) in
    (λ zero. inr (on.0 zero), λ either. elim either [ inl none ↦ absurd (cc) | inr goes ↦ on.1 goes ])
