-- Private. How written sets are kept: of each GS01, GS08 and its text, one after the other in one text.
use Rattle.std.specs.Prelude.{◌≤◌, ℕ, ◌+◌, ◌-◌, List, take, drop, length, slice_range}
use Rattle.mailbox.specs.Rendered.{RenderedValue}
use Rattle.mailbox.specs.declared.kept.Kept.{Kept}

abbrev pub kept_as : (bytes : List ℕ) → (sender id_len version_len : ℕ) → RenderedValue
kept_as bytes sender id_len version_len = record {
  key = record {
    sender = sender;
    functional_id = take id_len bytes;
    version = take version_len (drop id_len bytes);
  };
  text = drop (id_len + version_len) bytes;
}

-- a set in its text
abbrev pub kept_in : List ℕ → Kept → RenderedValue
kept_in text k = kept_as (slice_range text k.from k.to) k.sender k.id_len k.version_len

-- it is there, with GS01 and GS08 at its front
pub record StandsIn (text : List ℕ) (k : Kept) : Type 0 where
  pub order : k.from ≤ k.to
  pub within : k.to ≤ length text
  pub parts : k.id_len + k.version_len ≤ k.to - k.from
