-- The words of clauses of ack_lines: what its definitions are called, in one place.
pub use Rattle.ack_lines.specs.Lines.{all_lines, explanation, named_explanation, lines_behind, reported_lines, total_line}
pub use Rattle.ack_lines.specs.Reported.{reported_of, told_of}
pub use Rattle.ack_lines.specs.Shown.{shown, filled}
pub use Rattle.ack_lines.specs.Worded.{words_by}
