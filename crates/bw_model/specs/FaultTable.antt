-- The errors, in one table: each with its name, its number, its words, and the kind of its place.
-- The hundreds name the part: 1 the schema, 2 the CSV, 3 the table file, 4 the statement, 5 the
-- program, 6 its certificate, 7 an I/O device, 8 memory. The numbers and the words are this
-- project's own.
use Rattle.std.specs.Prelude.{ℕ, List, [], ◌∷◌, ◌==◌, if◌then◌else◌, codes}

-- of a schema text
abbrev pub SCHEMA_FORM : ℕ
SCHEMA_FORM = 101

abbrev pub SCHEMA_NAME : ℕ
SCHEMA_NAME = 102

abbrev pub SCHEMA_RANGE : ℕ
SCHEMA_RANGE = 103

abbrev pub NAME_TWICE : ℕ
NAME_TWICE = 104

abbrev pub COLUMN_COUNT : ℕ
COLUMN_COUNT = 105

abbrev pub SCHEMA_TOO_LONG : ℕ
SCHEMA_TOO_LONG = 106

-- of a CSV text
abbrev pub NO_HEADING : ℕ
NO_HEADING = 201

abbrev pub HEADING : ℕ
HEADING = 202

abbrev pub RECORD_LENGTH : ℕ
RECORD_LENGTH = 203

abbrev pub NOT_A_NUMBER : ℕ
NOT_A_NUMBER = 204

abbrev pub OUT_OF_RANGE : ℕ
OUT_OF_RANGE = 205

abbrev pub NULL_NOT_ALLOWED : ℕ
NULL_NOT_ALLOWED = 206

abbrev pub TOO_MANY_ROWS : ℕ
TOO_MANY_ROWS = 207

abbrev pub CSV_TOO_LONG : ℕ
CSV_TOO_LONG = 208

abbrev pub CSV_FAULT : ℕ
CSV_FAULT = 209

-- of a table file
abbrev pub MAGIC : ℕ
MAGIC = 301

abbrev pub VERSION : ℕ
VERSION = 302

abbrev pub LAYOUT : ℕ
LAYOUT = 303

abbrev pub HEADER : ℕ
HEADER = 304

abbrev pub TRUNCATED : ℕ
TRUNCATED = 305

abbrev pub CODE_TOO_LARGE : ℕ
CODE_TOO_LARGE = 306

abbrev pub NULL_WITH_CODE : ℕ
NULL_WITH_CODE = 307

abbrev pub PADDING : ℕ
PADDING = 308

abbrev pub BYTES_AFTER_END : ℕ
BYTES_AFTER_END = 309

abbrev pub ROW_COUNT : ℕ
ROW_COUNT = 310

-- of a statement
abbrev pub CHARACTER : ℕ
CHARACTER = 401

abbrev pub SYNTAX : ℕ
SYNTAX = 402

abbrev pub UNKNOWN_TABLE : ℕ
UNKNOWN_TABLE = 403

abbrev pub UNKNOWN_COLUMN : ℕ
UNKNOWN_COLUMN = 404

abbrev pub LITERAL : ℕ
LITERAL = 405

abbrev pub MIXED_ITEMS : ℕ
MIXED_ITEMS = 406

abbrev pub STATEMENT_TOO_LONG : ℕ
STATEMENT_TOO_LONG = 407

abbrev pub NESTING : ℕ
NESTING = 408

-- of a program file
abbrev pub PROGRAM_FORM : ℕ
PROGRAM_FORM = 501

abbrev pub REGISTER : ℕ
REGISTER = 502

abbrev pub COLUMN_OR_BIT : ℕ
COLUMN_OR_BIT = 503

abbrev pub SKIP_TARGET : ℕ
SKIP_TARGET = 504

abbrev pub PROGRAM_TOO_LONG : ℕ
PROGRAM_TOO_LONG = 505

abbrev pub NO_RESULT : ℕ
NO_RESULT = 506

abbrev pub NO_NULLS : ℕ
NO_NULLS = 507

abbrev pub PROGRAM_FILE_TOO_LONG : ℕ
PROGRAM_FILE_TOO_LONG = 508

-- of a certificate; 651 is the planner's
abbrev pub NODE : ℕ
NODE = 601

abbrev pub PRODUCT_ROW : ℕ
PRODUCT_ROW = 602

abbrev pub CHAIN_ROW : ℕ
CHAIN_ROW = 603

abbrev pub LIMIT : ℕ
LIMIT = 604

abbrev pub CERTIFICATE_FORM : ℕ
CERTIFICATE_FORM = 605

abbrev pub CONDITION_LINE : ℕ
CONDITION_LINE = 606

abbrev pub INSTRUCTION_LINE : ℕ
INSTRUCTION_LINE = 607

abbrev pub JOIN : ℕ
JOIN = 608

abbrev pub REGISTER_UNKNOWN : ℕ
REGISTER_UNKNOWN = 609

abbrev pub END : ℕ
END = 610

abbrev pub NO_PROGRAM : ℕ
NO_PROGRAM = 651

abbrev pub NO_CERTIFICATE : ℕ
NO_CERTIFICATE = 652

-- of an I/O device
abbrev pub READ_FAILED : ℕ
READ_FAILED = 701

abbrev pub WRITE_FAILED : ℕ
WRITE_FAILED = 702

-- of memory
abbrev pub OUT_OF_MEMORY : ℕ
OUT_OF_MEMORY = 801

-- the kind of place of an error of a whole call: none, or a byte, a line or a record of its input
pub data Standing : Type 0 where
  Unplaced : Standing
  InBytes : Standing
  InLines : Standing
  InRecords : Standing

-- a row of the table
pub record FaultEntry : Type 0 where
  pub number : ℕ
  pub words : List ℕ
  pub standing : Standing

abbrev pub fault_entry : ℕ → List ℕ → Standing → FaultEntry
fault_entry number words standing = record { number = number; words = words; standing = standing }

-- all errors
abbrev pub faults : List FaultEntry
faults =
    fault_entry SCHEMA_FORM (codes "line form") InLines
    ∷ fault_entry SCHEMA_NAME (codes "name") InLines
    ∷ fault_entry SCHEMA_RANGE (codes "range") InLines
    ∷ fault_entry NAME_TWICE (codes "name twice") InLines
    ∷ fault_entry COLUMN_COUNT (codes "number of columns") InLines
    ∷ fault_entry SCHEMA_TOO_LONG (codes "schema too long") Unplaced
    ∷ fault_entry NO_HEADING (codes "no heading") InRecords
    ∷ fault_entry HEADING (codes "heading") InRecords
    ∷ fault_entry RECORD_LENGTH (codes "record length") InRecords
    ∷ fault_entry NOT_A_NUMBER (codes "not a whole number") InRecords
    ∷ fault_entry OUT_OF_RANGE (codes "out of range") InRecords
    ∷ fault_entry NULL_NOT_ALLOWED (codes "null not allowed") InRecords
    ∷ fault_entry TOO_MANY_ROWS (codes "too many rows") InRecords
    ∷ fault_entry CSV_TOO_LONG (codes "csv too long") Unplaced
    ∷ fault_entry CSV_FAULT (codes "csv fault") InRecords
    ∷ fault_entry MAGIC (codes "magic") InBytes
    ∷ fault_entry VERSION (codes "version") InBytes
    ∷ fault_entry LAYOUT (codes "layout") InBytes
    ∷ fault_entry HEADER (codes "header") InBytes
    ∷ fault_entry TRUNCATED (codes "truncated") InBytes
    ∷ fault_entry CODE_TOO_LARGE (codes "code too large") InBytes
    ∷ fault_entry NULL_WITH_CODE (codes "null with a code") InBytes
    ∷ fault_entry PADDING (codes "padding") InBytes
    ∷ fault_entry BYTES_AFTER_END (codes "bytes after the end") InBytes
    ∷ fault_entry ROW_COUNT (codes "row count") InBytes
    ∷ fault_entry CHARACTER (codes "character") InBytes
    ∷ fault_entry SYNTAX (codes "syntax") InBytes
    ∷ fault_entry UNKNOWN_TABLE (codes "unknown table") InBytes
    ∷ fault_entry UNKNOWN_COLUMN (codes "unknown column") InBytes
    ∷ fault_entry LITERAL (codes "literal") InBytes
    ∷ fault_entry MIXED_ITEMS (codes "columns and aggregates mixed") InBytes
    ∷ fault_entry STATEMENT_TOO_LONG (codes "statement too long") InBytes
    ∷ fault_entry NESTING (codes "nesting") InBytes
    ∷ fault_entry PROGRAM_FORM (codes "line form") InLines
    ∷ fault_entry REGISTER (codes "register") InLines
    ∷ fault_entry COLUMN_OR_BIT (codes "column or bit") InLines
    ∷ fault_entry SKIP_TARGET (codes "skip target") InLines
    ∷ fault_entry PROGRAM_TOO_LONG (codes "program too long") InLines
    ∷ fault_entry NO_RESULT (codes "no result") InLines
    ∷ fault_entry NO_NULLS (codes "column has no nulls") InLines
    ∷ fault_entry PROGRAM_FILE_TOO_LONG (codes "program file too long") Unplaced
    ∷ fault_entry NODE (codes "node") InLines
    ∷ fault_entry PRODUCT_ROW (codes "product row") InLines
    ∷ fault_entry CHAIN_ROW (codes "chain row") InLines
    ∷ fault_entry LIMIT (codes "limit") InLines
    ∷ fault_entry CERTIFICATE_FORM (codes "line form") InLines
    ∷ fault_entry CONDITION_LINE (codes "condition line") InLines
    ∷ fault_entry INSTRUCTION_LINE (codes "instruction line") InLines
    ∷ fault_entry JOIN (codes "join") InLines
    ∷ fault_entry REGISTER_UNKNOWN (codes "register unknown") InLines
    ∷ fault_entry END (codes "end") InLines
    ∷ fault_entry NO_PROGRAM (codes "no program within the limits") Unplaced
    ∷ fault_entry NO_CERTIFICATE (codes "no certificate found") InLines
    ∷ fault_entry READ_FAILED (codes "read failed") Unplaced
    ∷ fault_entry WRITE_FAILED (codes "write failed") Unplaced
    ∷ fault_entry OUT_OF_MEMORY (codes "out of memory") Unplaced
    ∷ []

-- the words of a number in the first row that has it, or `fault` if there is none
abbrev pub words_among : List FaultEntry → ℕ → List ℕ
words_among [] number = codes "fault"
words_among (row ∷ rows) number = if number == row.number then row.words
    else words_among rows number

-- the words of an error, by its number
unfoldable pub words_of : ℕ → List ℕ
words_of number = words_among faults number

-- the kind of place of a number in the first row that has it, or none
abbrev pub standing_among : List FaultEntry → ℕ → Standing
standing_among [] number = Unplaced
standing_among (row ∷ rows) number = if number == row.number then row.standing
    else standing_among rows number

-- the kind of place of an error, by its number
unfoldable pub standing_of : ℕ → Standing
standing_of number = standing_among faults number
