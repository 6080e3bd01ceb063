-- The lines that a call prints beside its result, and its exit status.
use Rattle.std.specs.Prelude.{ℕ, nat_lt, if◌then◌else◌, List, ◌++◌, codes, Result}
use Rattle.std.specs.Fmt.{decimal}
use Rattle.bw_model.specs.declared.fault.Fault.{Fault}
use Rattle.bw_cert.specs.declared.accepted.Accepted.{Accepted}
use Rattle.bw_io.specs.Sink.{GoesOut, SinkState}
use Rattle.bw_report.specs.declared.served.By.{By}
use Rattle.bw_report.specs.declared.served.By.TheVariants.{Program, Rows}
use Rattle.bw_report.specs.declared.served.Served.{Served}

-- the exit status of an error, by the hundred of its number: 6xx is the certificate's, 7xx an I/O
-- device's and 8xx memory's
abbrev pub status_of : Fault → ℕ
status_of fault =
    if nat_lt fault.code 600 then 3
    else (if nat_lt fault.code 700 then 4 else (if nat_lt fault.code 800 then 5 else 6))

-- a text was written to a sink, completely or up to a failed write
abbrev pub IsWritten : SinkState → SinkState → List ℕ → Type 0
IsWritten old new text = (outcome : Result (Unit {0}) Fault) × GoesOut old new text outcome

-- the word for who selected a query's rows
abbrev pub by_text : By → List ℕ
by_text Program = codes "program"
by_text Rows = codes "rows"

-- words, followed by a number in decimal
abbrev pub with_count : List ℕ → ℕ → List ℕ
with_count words count = words ++ decimal count

-- The line of scan statistics, as `served rows segments 1 loads 0 skips 0`, with its line end.
abbrev pub stats_line : Served → List ℕ
stats_line served =
    ((((codes "served " ++ by_text served.by)
    ++ with_count (codes " segments ") served.segments)
    ++ with_count (codes " loads ") served.loads)
    ++ with_count (codes " skips ") served.skips)
    ++ codes "\n"

-- The line of the number of segments that were settled, as `settled 19300 segments`, with its
-- line end.
abbrev pub settled_line : ℕ → List ℕ
settled_line segments = with_count (codes "settled ") segments ++ codes " segments\n"

-- The line of an accepted program file, as `accepted: 4 instructions, 1 skips, 6 nodes, 9 chains,
-- 17 rows`, with its line end.
abbrev pub accepted_line : Accepted → List ℕ
accepted_line accepted =
    ((((with_count (codes "accepted: ") accepted.instructions
    ++ with_count (codes " instructions, ") accepted.skips)
    ++ with_count (codes " skips, ") accepted.nodes)
    ++ with_count (codes " nodes, ") accepted.chains)
    ++ with_count (codes " chains, ") accepted.rows)
    ++ codes " rows\n"
