-- What doesn't fit is past the cut as well.
use Rattle.bw_text.specs.Number.{digits_value, number_of}
use Rattle.bw_text.proofs.Numbers.{negative_is, positive_is}
use Rattle.bw_text.proofs.number.checked_with_sign.Goals as goal

pub returns-then-is_negative : goal.returns-then-is_negative
unfolding number_of
returns-then-is_negative c = λ digits e. rw c.if-is_negative.true (negative_is _ _ (digits_value digits) e c.checked_sub_unsigned.ensures)

pub returns-else-is_negative : goal.returns-else-is_negative
unfolding number_of
returns-else-is_negative c = λ digits e. rw c.if-is_negative.false (positive_is _ _ (digits_value digits) e c.checked_add_unsigned.ensures)
