-- 999 guide (005010X231), AK2 and IK5: what a receiver reads of each set in an acknowledgment, in the words by which these are read.
pub use Rattle.ack_read.specs.Responses.{Response, responses_behind, responses_in}
