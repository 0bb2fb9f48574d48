-- The lemmas of this crate on which those above it stand.
pub use Rattle.night_law.proofs.Bodies.{IsBody, bodies_text, text_read}
pub use Rattle.night_law.proofs.Changing.{AreApart}
pub use Rattle.night_law.proofs.Delivered.{delivered_free, faultless, is_ready, passing}
pub use Rattle.night_law.proofs.Enveloping.{component, ge, gs, gs_elements, iea, isa, isa_text, readable_ge, readable_gs, readable_iea}
pub use Rattle.night_law.proofs.Enveloping.{readable_isa, readable_ta1, ta1}
pub use Rattle.night_law.proofs.Found.{IsBetween, divided}
pub use Rattle.night_law.proofs.Headers.{at_index, settled_headers}
pub use Rattle.night_law.proofs.Mailboxes.{IsReady, chunks_all, ge_of, groups_all, gs_of, numbered_all, readable_ge_of, readable_gs_of}
pub use Rattle.night_law.proofs.Marked.{IsMarked, marked}
pub use Rattle.night_law.proofs.OneNight.{known_once}
pub use Rattle.night_law.proofs.OneSet.{Inner, IsFit, found_in, inner_all, inner_bodies, inner_found, se_body, se_divided, se_elements}
pub use Rattle.night_law.proofs.OneSet.{set_all, set_bodies, st_divided, st_elements, text_of_set}
pub use Rattle.night_law.proofs.Pairs.{pairs_tail, pairs_weaker_at}
pub use Rattle.night_law.proofs.PlainReferences.{everywhere}
pub use Rattle.night_law.proofs.QuotedElements.{AreElementsUndivided, elements_undivided}
pub use Rattle.night_law.proofs.Reading.{trimmed_at}
pub use Rattle.night_law.proofs.ReadingNights.{IsGroupRead, IsRead, all_read, groups_read}
pub use Rattle.night_law.proofs.ReadingSets.{group_quoted}
pub use Rattle.night_law.proofs.Repeated.{repeated}
pub use Rattle.night_law.proofs.SetTexts.{IsDivided, body_of, divided_body, divided_parts, inner_id}
pub use Rattle.night_law.proofs.SettledSound.{IsSettledSound, settled_sound}
pub use Rattle.night_law.proofs.Sources.{IsSource, IsThere, settled_sources}
pub use Rattle.night_law.proofs.Splitting.{all_both, map_none}
pub use Rattle.night_law.proofs.TellingNights.{IsAnsweredGroup, acknowledged_as_told, answered_anywhere, answers_here}
pub use Rattle.night_law.proofs.Together.{pairs_all}
pub use Rattle.night_law.proofs.WholeNight.{whole_night}
