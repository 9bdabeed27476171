-- The theorems of a station, by name: from an opening line that was answered `00`, over any lines given one after the other.
-- every question line gets what the definitions say over all operations accepted so far; stations that accepted the same ones agree, and fully
-- settled ones hold the same rows; 11 is never told
pub use Rattle.law_agreement.proofs.Lines.{every_answer, equal_answers, equal_rows, never_eleven}
-- the space holds the table that the meaning reaches
pub use Rattle.law_agreement.proofs.Lines.{lines_hold}
-- a line is answered with what its call answers, and one that is refused changes nothing
pub use Rattle.law_agreement.proofs.ByType.{by_type, refused_changes_nothing}
-- every single call, by the numbers of its refusals
pub use Rattle.law_agreement.proofs.ExactlyWhen.{exactly_when}
-- the line that a local operation leaves says that operation, to every table that hears it
pub use Rattle.law_agreement.proofs.FrameBack.{issued_line_reads_back}
