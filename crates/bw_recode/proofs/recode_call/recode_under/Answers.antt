-- Each exit, by the contracts of its calls.
use Rattle.std.proofs.Common.{[], inl, inr, refl, subst, arith}
use Rattle.std.proofs.lemmas.Result.{IfOk-weaker, IfErr-weaker}
use Rattle.bw_text.specs.Lines.{cut_lines}
use Rattle.bw_model.proofs.ErrLemmas.{err_passed_on}
use Rattle.bw_io.specs.Source.{SourceState}
use Rattle.bw_file.specs.Memory.{memory_state}
use Rattle.bw_file.specs.Reading.{GoesOn, give, state_at}
use Rattle.bw_file.specs.TableReader.{ReadProgress, bytes_taken, header_stated, layout_in, schema_in}
use Rattle.bw_file.specs.TableReader.{version_in}
use Rattle.bw_file.specs.TableReading.{header}
use Rattle.bw_file.proofs.FileSpelling.{read_is_spelled_by}
use Rattle.bw_recode.specs.Recode.{replacements_in}
use Rattle.bw_recode.proofs.ReplacingLemmas.{replacing}
use Rattle.bw_recode.proofs.recode_call.recode_under.Goals as goal

pub returns-in_err-replacements-clause-refused : goal.returns-in_err-replacements-clause-refused
returns-in_err-replacements-clause-refused c =
    let reader = c.in_ok-reader.reader in
    let head = subst (λ (s : SourceState). GoesOn header (state_at s 0) (give (header_stated (version_in reader) reader)) (state_at (memory_state c.begin.new.source) (bytes_taken reader)))
    c.new-source.ensures c.in_ok-reader.ensures.stated in
    rw (err_passed_on _ c.from_residual-in_err-replacements.ensures.1) (λ kept. inr (inl (record {
      old = schema_in c.in_ok-reader.reader;
      head = record { after = _; stated = _; read = head; shape = refl };
      refused = rw (c.deref.ensures.value, c.schema.ensures, c.deref-2.ensures.value) at (c.in_err-replacements.ensures kept);
    })))

pub encode_rest-requires-clause-replacing : goal.encode_rest-requires-clause-replacing
encode_rest-requires-clause-replacing c =
    rw c.deref-3.ensures.value
    (replacing (schema_in c.in_ok-reader.reader).columns.items c.args.schema.now.columns.items 1 (cut_lines c.args.numbers.now) (replacements_in c.in_ok-replacements.replacements.items)
    (rw (c.deref.ensures.value, c.schema.ensures, c.deref-2.ensures.value) at c.in_ok-replacements.ensures))

pub returns-clause-recoded : goal.returns-clause-recoded
returns-clause-recoded c =
    let reader = c.in_ok-reader.reader in
    let began = subst (λ (s : SourceState). ReadProgress (state_at s 0) (state_at (memory_state c.begin.new.source) (bytes_taken reader)) reader []) c.new-source.ensures c.in_ok-reader.ensures.began in
    let spelled = rw (c.deref.ensures.value, c.schema.ensures, c.deref-2.ensures.value) at c.in_ok-replacements.ensures in
    IfOk-weaker c.encode_rest.result _ _ (λ file encoded. let e = encoded c.args.table.now began in record {
      layout = layout_in c.in_ok-reader.reader;
      old = schema_in c.in_ok-reader.reader;
      rows = e.rows;
      file = read_is_spelled_by c.args.table.now _ (schema_in c.in_ok-reader.reader) (λ i. omega (arith, c.type_inv.table i)) refl e.read;
      replacements = replacements_in c.in_ok-replacements.replacements.items;
      spelled = spelled;
      is = rw c.deref-3.ensures.value at e.is;
    }) c.encode_rest.ensures.file

pub returns-clause-refused : goal.returns-clause-refused
returns-clause-refused c =
    let reader = c.in_ok-reader.reader in
    let began = subst (λ (s : SourceState). ReadProgress (state_at s 0) (state_at (memory_state c.begin.new.source) (bytes_taken reader)) reader []) c.new-source.ensures c.in_ok-reader.ensures.began in
    let head = subst (λ (s : SourceState). GoesOn header (state_at s 0) (give (header_stated (version_in reader) reader)) (state_at (memory_state c.begin.new.source) (bytes_taken reader)))
    c.new-source.ensures c.in_ok-reader.ensures.stated in
    IfErr-weaker c.encode_rest.result _ _ (λ fault refused kept. inr (inr (record {
      old = schema_in c.in_ok-reader.reader;
      head = record { after = _; stated = _; read = head; shape = refl };
      replacements = replacements_in c.in_ok-replacements.replacements.items;
      spelled = rw (c.deref.ensures.value, c.schema.ensures, c.deref-2.ensures.value) at c.in_ok-replacements.ensures;
      read = refused kept c.args.table.now began;
    }))) c.encode_rest.ensures.refused
