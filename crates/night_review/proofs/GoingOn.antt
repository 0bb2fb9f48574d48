-- Nothing is amiss exactly if nights go on.
use Rattle.std.proofs.Common.{◌≡◌, ◌↔◌, ℕ, Bool, true, false, cond, List, [], ◌∷◌, ◌++◌, ◌∙◌, ap, ap₂, length, map, refl, sym}
use Rattle.std.specs.Borrow.{Bor}
use Rattle.std.specs.Str.{bytes_eq}
use Rattle.std.specs.Cmp.Lexicographic.{bytes_decides}
use Rattle.std.proofs.lemmas.List.{length-map}
use Rattle.breach_lines.specs.Lines.{report_text}
use Rattle.hub_ledger.specs.declared.entry.NightEntry.{NightEntry}
use Rattle.night_breaches.specs.Breaches.{last_breach, last_name}
use Rattle.night_breaches.specs.Sound.{AreSound}
use Rattle.night_breaches.specs.declared.breach.Breach.{Breach}
use Rattle.night_breaches.specs.declared.breach.Breach.TheVariants as breach
use Rattle.night_marks.specs.Count.{archived_count, unarchived}
use Rattle.night_marks.specs.Links.{broken_link, broken_links}
use Rattle.night_marks.specs.declared.bad.BadFile.{BadFile}
use Rattle.night_marks.specs.declared.link.BrokenLink.{BrokenLink}
use Rattle.night_marks.specs.declared.mark.NightMark.{NightMark}
use Rattle.night_review.specs.Count.{addresses_of, different}
use Rattle.night_review.specs.GoingOn.{AreLinked, GoOn, IsJudged, all_breaches, archived_line}

nil_both : {X : Type 0} (xs ys : List X) → xs ++ ys ≡ [] → (xs ≡ []) × (ys ≡ [])
nil_both [] ys is = (refl, is)
nil_both (x ∷ xs) ys is = absurd (cc)

nil_length : {X : Type 0} (xs : List X) → length xs ≡ 0 → xs ≡ []
nil_length [] is = refl
nil_length (x ∷ xs) is = absurd (cc)

-- nothing is said of two texts exactly if they are equal
equal_none : {X : Type 0} (a b : List ℕ) (x : X) (same : Bool) → bytes_eq a b ≡ same → (cond same [] (x ∷ []) ≡ []) ↔ (a ≡ b)
equal_none a b x true is = (λ _. (bytes_decides a b).0 is, λ _. refl)
equal_none a b x false is = (λ no. absurd (cc), λ equal. (let yes : bytes_eq a b ≡ true = (bytes_decides a b).1 equal in absurd (cc)))

links_none : (before : List ℕ) (nights : List NightMark) → (broken_links before nights ≡ []) ↔ AreLinked before nights
links_none before [] = (λ _. tt, λ _. refl)
links_none before (night ∷ nights) =
    let here = equal_none night.before before (record { night = night.name; named = night.before; before = before })
    (bytes_eq night.before before) refl in
    let rest = links_none night.name nights in (
      λ none. (let both = nil_both (broken_link before night) (broken_links night.name nights) none in (here.0 both.0, rest.0 both.1)),
      λ linked. ap₂ (λ (xs ys : List BrokenLink). xs ++ ys) (here.1 linked.0) (rest.1 linked.1),
    )

pub all_none : (named : List ℕ) (entries : List NightEntry) (first : List Breach) (S : Type 0) → ((first ≡ []) ↔ S)
    → ((first ++ last_breach named entries) ≡ []) ↔ (S × (last_name entries ≡ named))
all_none named entries first S none =
    let last = equal_none (last_name entries) named (breach.LastNight
    (record { last = last_name entries; named = named })) (bytes_eq (last_name entries) named) refl in (
      λ all. (let both = nil_both first (last_breach named entries) all in (none.0 both.0, last.0 both.1)),
      λ both. ap₂ (λ (xs ys : List Breach). xs ++ ys) (none.1 both.0) (last.1 both.1),
    )

pub clean : (limit named : List ℕ) (order : List NightMark) (entries : List NightEntry) (bad : List BadFile) (links : List BrokenLink)
    (found : List Breach) (status : ℕ) → ((status ≡ 0) ↔ ((length bad ≡ 0) × (length links ≡ 0) × (length found ≡ 0)))
    → links ≡ broken_links [] order → ((found ≡ []) ↔ (AreSound limit [] entries × (last_name entries ≡ named)))
    → (status ≡ 0) ↔ GoOn limit named order entries bad
clean limit named order entries bad links found status zero links_are none = (goes_on, back)
  where
    goes_on : status ≡ 0 → GoOn limit named order entries bad
    goes_on is =
        let counts = zero.0 is in
        let sound = none.0 (nil_length found counts.2) in
        record {
          each_is_kept = nil_length bad counts.0;
          linked = (links_none [] order).0 (sym links_are ∙ nil_length links counts.1);
          sound = sound.0;
          last = sound.1;
        }

    back : GoOn limit named order entries bad → status ≡ 0
    back on =
        zero.1 (
          ap (λ (l : List BadFile). length l) on.each_is_kept,
          ap (λ (l : List BrokenLink). length l) (links_are ∙ (links_none [] order).1 on.linked),
          ap (λ (l : List Breach). length l) (none.1 (on.sound, on.last)),
        )

-- what is printed is the text of what was found
pub judged_by : (limit named : List ℕ) (order nights : List (Bor NightMark)) (entries : List NightEntry) (bad : List BadFile)
    (text lines : List ℕ) (status addresses count left : ℕ) (links : List BrokenLink) (found : List Breach)
    → text ≡ archived_line count ++ lines → count ≡ archived_count (map (λ (n : Bor NightMark). n.now) order)
    → lines ≡ report_text left addresses bad links found → left ≡ length nights
    → map (λ (n : Bor NightMark). n.now) nights ≡ unarchived (map (λ (n : Bor NightMark). n.now) order)
    → addresses ≡ different [] (addresses_of entries) → links ≡ broken_links [] (map (λ (n : Bor NightMark). n.now) order)
    → found ≡ all_breaches limit named entries → ((found ≡ []) ↔ (AreSound limit [] entries × (last_name entries ≡ named)))
    → ((status ≡ 0) ↔ ((length bad ≡ 0) × (length links ≡ 0) × (length found ≡ 0)))
    → IsJudged limit named (map (λ (n : Bor NightMark). n.now) order) entries bad text status
judged_by limit named order nights entries bad text lines status addresses count left links found text_by count_is lines_by left_is
    nights_are addresses_are links_are found_are none zero =
    let marks : List NightMark = map (λ (n : Bor NightMark). n.now) order in
    let known : ℕ = different [] (addresses_of entries) in
    let many : left ≡ length (unarchived marks) =
    left_is ∙ sym (length-map nights (λ (n : Bor NightMark). n.now)) ∙ ap (λ (l : List NightMark). length l) nights_are in
    record {
      text_is =
          text_by ∙ ap (λ (n : ℕ). archived_line n ++ lines) count_is
          ∙ ap (λ (l : List ℕ). archived_line (archived_count marks) ++ l) (lines_by
          ∙ ap (λ (n : ℕ). report_text n addresses bad links found) many
          ∙ ap (λ (n : ℕ). report_text (length (unarchived marks)) n bad links found) addresses_are
          ∙ ap (λ (l : List BrokenLink). report_text (length (unarchived marks)) known bad l found) links_are
          ∙ ap (λ (f : List Breach). report_text (length (unarchived marks)) known bad (broken_links [] marks) f) found_are);
      clean = clean limit named marks entries bad links found status zero links_are none;
    }
