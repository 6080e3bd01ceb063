-- The state of a statement, byte by byte.
use Rattle.std.specs.Prelude.{ℕ, Bool, true, false, List, [], ◌∷◌, ◌==◌, if◌then◌else◌}
use Rattle.bw_session.specs.declared.statement_state.StatementState.{StatementState}
use Rattle.bw_session.specs.declared.statement_state.StatementState.TheVariants.{Blank, Text, Dash}
use Rattle.bw_session.specs.declared.statement_state.StatementState.TheVariants.{Comment, Ended}
use Rattle.bw_session.specs.Statements.{is_blank}

-- After a byte of text: an LF begins a line that is blank so far, a semicolon ends the statement,
-- and a dash may begin a comment. All else is text.
abbrev pub after_text : ℕ → StatementState
after_text byte =
    if byte == 10 then Blank else if byte == 59 then Ended else if byte == 45 then Dash else Text

-- In a line that is blank so far, an LF ends the statement: the line is empty.
abbrev pub after_blank : ℕ → StatementState
after_blank byte = if byte == 10 then Ended else if is_blank byte then Blank else after_text byte

-- A second dash begins a comment, which an LF ends.
abbrev pub after_dash : ℕ → StatementState
after_dash byte = if byte == 45 then Comment else after_text byte

abbrev pub after_comment : ℕ → StatementState
after_comment byte = if byte == 10 then Blank else Comment

-- the state of a statement after one more byte
abbrev pub after : StatementState → ℕ → StatementState
after Blank byte = after_blank byte
after Text byte = after_text byte
after Dash byte = after_dash byte
after Comment byte = after_comment byte
after Ended byte = Ended

-- its state after some bytes
unfoldable pub statement_state_after : StatementState → List ℕ → StatementState
statement_state_after standing [] = standing
statement_state_after standing (byte ∷ rest) = statement_state_after (after standing byte) rest

abbrev pub is_ended : StatementState → Bool
is_ended Ended = true
is_ended _ = false
