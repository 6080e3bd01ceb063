-- Each kind of byte begins its own kind of piece.
use Rattle.std.proofs.Common.{◌∙◌, sym}
use Rattle.bw_sql.proofs.Cuts.{blank_longest, word_longest, digits_longest, comment_longest}
use Rattle.bw_sql.proofs.Cuts.{delimiter_longest, no_piece, split}
use Rattle.bw_sql.proofs.lexer.first_piece.Goals as goal

pub returns-in_err-token : goal.returns-in_err-token
returns-in_err-token c =
    rw c.from_residual-in_err-token.ensures (no_piece _ _ _ c.in_ok-first.ensures.cases.0
    (sym c.is_blank.ensures ∙ c.if-is_blank.false) (sym c.begins_word.ensures ∙ c.if-begins_word.false)
    (sym c.is_ascii_digit.ensures.value ∙ c.if-is_ascii_digit.false) (sym c.begins_comment.ensures ∙ c.if-begins_comment.false)
    c.in_err-token.ensures)

pub returns-then-is_blank : goal.returns-then-is_blank
returns-then-is_blank c = blank_longest _ _ _ c.in_ok-first.ensures.cases.0 (sym c.is_blank.ensures ∙ c.if-is_blank.true)

pub returns-then-begins_word : goal.returns-then-begins_word
returns-then-begins_word c =
    word_longest _ _ _ _ _ _ c.in_ok-first.ensures.cases.0 (sym c.begins_word.ensures ∙ c.if-begins_word.true)
    (split _ _ _ _ _ c.word_len.ensures.is c.split_at.ensures.front c.split_at.ensures.back) c.word_token.ensures

pub returns-then-is_ascii_digit : goal.returns-then-is_ascii_digit
returns-then-is_ascii_digit c =
    let s = c.split_at-then-is_ascii_digit.ensures in
    digits_longest _ _ _ _ _ c.in_ok-first.ensures.cases.0 (sym c.is_ascii_digit.ensures.value ∙ c.if-is_ascii_digit.true)
    (split _ _ _ _ _ c.digits_len.ensures.is s.front s.back)

pub returns-then-begins_comment : goal.returns-then-begins_comment
returns-then-begins_comment c =
    let s = c.split_at-then-begins_comment.ensures in
    comment_longest _ _ _ _ _ c.in_ok-first.ensures.cases.0 (sym c.begins_comment.ensures ∙ c.if-begins_comment.true)
    (split _ _ _ _ _ c.comment_len.ensures.is s.front s.back)

pub returns-in_ok-token : goal.returns-in_ok-token
returns-in_ok-token c =
    delimiter_longest _ _ _ c.in_ok-first.ensures.cases.0
    (sym c.is_blank.ensures ∙ c.if-is_blank.false) (sym c.begins_word.ensures ∙ c.if-begins_word.false)
    (sym c.is_ascii_digit.ensures.value ∙ c.if-is_ascii_digit.false) (sym c.begins_comment.ensures ∙ c.if-begins_comment.false)
    _ _ c.in_ok-token.ensures
