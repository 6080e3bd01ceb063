-- The reader says what it read and what it has left.
use Rattle.std.proofs.Common.{◌∙◌, inl}
use Rattle.csv.specs.Records.{fields_of}
use Rattle.bw_csv.proofs.RecordLemmas.{next-found, next-none}
use Rattle.bw_csv.proofs.records.read_fields.Goals as goal

pub returns-in-Ok-clause-nonempty : goal.returns-in-Ok-clause-nonempty
returns-in-Ok-clause-nonempty c = λ found.
    let reads = rw found at (c.in-Ok.ensures.reads c.requires.1 c.requires.2) in
    (next-found c.args.reader.now c.read_byte_record.new.self (fields_of c.read_byte_record.new.row) c.requires reads).0

pub returns-in-Ok-clause-open : goal.returns-in-Ok-clause-open
returns-in-Ok-clause-open c = λ found.
    let reads = c.in-Ok.ensures.reads c.requires.1 c.requires.2 in
    let more = next-found c.args.reader.now c.read_byte_record.new.self (fields_of c.read_byte_record.new.row) c.requires (rw found at reads) in (
      reads.2 ∙ c.requires.0,
      reads.3 ∙ c.requires.1,
      inl (c.in-Ok.ensures.ready c.requires.1),
      c.in-Ok.ensures.goes ∙ c.requires.3,
      more.1,
      c.in-Ok.ensures.flexible ∙ c.requires.5,
    )

pub returns-in-Ok-clause-none : goal.returns-in-Ok-clause-none
returns-in-Ok-clause-none c = λ none.
    let reads = rw none at (c.in-Ok.ensures.reads c.requires.1 c.requires.2) in
    next-none c.args.reader.now c.read_byte_record.new.self (fields_of c.read_byte_record.new.row) c.requires reads
