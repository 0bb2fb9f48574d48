-- The words of clauses of ack_read: what its definitions are called, in one place.
pub use Rattle.ack_read.specs.Kinds.{ack_kind}
pub use Rattle.ack_read.specs.Reading.{AreToldBy, IsRefused, first_delims, response_by, responses_told, ta1_by, ta1s_told}
pub use Rattle.ack_read.specs.Responses.{Response, responses_behind, responses_in}
pub use Rattle.ack_read.specs.Ta1s.{Ta1, ta1s_among, ta1s_in, ta1s_of}
pub use Rattle.ack_read.specs.Told.{Standing, at_begin, behind, told_behind, reports_of_segment, told_in}
