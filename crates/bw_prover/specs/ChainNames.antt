-- The columns that the lines of chains name.
use Rattle.std.specs.Prelude.{Bool, List}
use Rattle.std.specs.List.{list_all}
use Rattle.bw_model.specs.declared.column.Column.{Column}
use Rattle.bw_cert_text.specs.declared.lines.ChainLine.{ChainLine}
use Rattle.bw_cert_text.specs.CertificateFields.{column_fields}
use Rattle.bw_cert_text.specs.Columns.{are_columns}

-- a chain names columns that are among these
abbrev pub is_chain_named : List Column → ChainLine → Bool
is_chain_named columns chain = are_columns columns (column_fields chain.columns)

-- so does each of some chains
abbrev pub are_chains_named : List Column → List ChainLine → Bool
are_chains_named columns chains = list_all (is_chain_named columns) chains
