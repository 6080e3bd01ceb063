-- The arguments that a command has, by their words in the help.
use Rattle.std.specs.Prelude.{ℕ, List, Bool, ◌||◌, ◌==◌, Option, Some, None, codes}
use Rattle.std.specs.Borrow.{Bor}
use Rattle.bw_cli.specs.declared.args.CommandArgs.{CommandArgs}
use Rattle.bw_cli.specs.declared.args.CommandArgs.TheVariants.{Direct, Infer, Load, Query, Encode}
use Rattle.bw_cli.specs.declared.args.CommandArgs.TheVariants.{Recode, Session, Info, Dump, Plan}
use Rattle.bw_cli.specs.declared.args.CommandArgs.TheVariants.{Certify, Check}

-- a word of the command line
abbrev pub Word : Type 0
Word = Bor (List ℕ)

-- SCHEMA
abbrev pub schema_of : CommandArgs → Option Word
schema_of (Direct schema csv sql) = Some schema
schema_of (Load order layout schema csv out) = Some schema
schema_of (Recode order table schema numbers out) = Some schema
schema_of (Plan schema sql) = Some schema
schema_of (Certify schema sql program) = Some schema
schema_of (Check schema sql file) = Some schema
schema_of _ = None

-- CSV
abbrev pub csv_of : CommandArgs → Option Word
csv_of (Direct schema csv sql) = Some csv
csv_of (Infer name csv) = Some csv
csv_of (Load order layout schema csv out) = Some csv
csv_of (Encode marks selected order layout csv out fields) = Some csv
csv_of _ = None

-- TABLE, or the IN of `bw recode`
abbrev pub table_of : CommandArgs → Option Word
table_of (Query program stats table sql) = Some table
table_of (Recode order table schema numbers out) = Some table
table_of (Session stats table) = Some table
table_of (Info verify table) = Some table
table_of (Dump table) = Some table
table_of _ = None

-- PROGRAM, the FILE of `bw check`, or that of the option of `bw query`
abbrev pub program_of : CommandArgs → Option Word
program_of (Query program stats table sql) = program
program_of (Certify schema sql program) = Some program
program_of (Check schema sql file) = Some file
program_of _ = None

-- NUMBERS
abbrev pub numbers_of : CommandArgs → Option Word
numbers_of (Recode order table schema numbers out) = Some numbers
numbers_of _ = None

-- SQL
abbrev pub sql_of : CommandArgs → Option Word
sql_of (Direct schema csv sql) = Some sql
sql_of (Query program stats table sql) = Some sql
sql_of (Plan schema sql) = Some sql
sql_of (Certify schema sql program) = Some sql
sql_of (Check schema sql file) = Some sql
sql_of _ = None

-- the NAME of the option of `bw infer`
abbrev pub name_of : CommandArgs → Option Word
name_of (Infer name csv) = name
name_of _ = None

-- OUT
abbrev pub out_of : CommandArgs → Option Word
out_of (Load order layout schema csv out) = Some out
out_of (Encode marks selected order layout csv out fields) = Some out
out_of (Recode order table schema numbers out) = Some out
out_of _ = None

-- how the help prints the command
abbrev pub usage_of : CommandArgs → List ℕ
usage_of (Direct schema csv sql) = codes "bw direct SCHEMA CSV SQL"
usage_of (Infer name csv) = codes "bw infer [--table NAME] CSV"
usage_of (Load order layout schema csv out) = codes
    "bw load [--columnar] [--layout planes|slices] SCHEMA CSV OUT"
usage_of (Encode marks selected order layout csv out fields) = codes "bw encode [OPTIONS] CSV OUT FIELDS"
usage_of (Recode order table schema numbers out) = codes
    "bw recode [--columnar] IN SCHEMA NUMBERS OUT"
usage_of (Query program stats table sql) = codes "bw query [--program FILE] [--stats] TABLE SQL"
usage_of (Session stats table) = codes "bw session [--program FILE]... [--stats] TABLE"
usage_of (Info verify table) = codes "bw info [--verify] TABLE"
usage_of (Dump table) = codes "bw dump TABLE"
usage_of (Plan schema sql) = codes "bw plan SCHEMA SQL"
usage_of (Certify schema sql program) = codes "bw certify SCHEMA SQL PROGRAM"
usage_of (Check schema sql file) = codes "bw check SCHEMA SQL FILE"

-- the status of a command line that runs nothing: of a call for the version, 5 if that couldn't be
-- written, of help and of a usage error, and if memory is refused
abbrev pub is_idle_status : ℕ → Bool
is_idle_status status = (status == 0) || (status == 2) || (status == 5) || (status == 6)
