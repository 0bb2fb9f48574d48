-- What others chose puts no markup into a page.
use Rattle.std.specs.Prelude.{◌≡◌, ℕ, false, List}
use Rattle.std.specs.List.{list_any}
use Rattle.html_text.specs.Html.{html_bytes, is_markup}

-- neither as a text nor as lines
abbrev pub TextsStayTexts : Type 0
TextsStayTexts = (text : List ℕ) → list_any is_markup (html_bytes text) ≡ false
