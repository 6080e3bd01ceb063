use Rattle.std.proofs.Common.{◌≡◌, [], suc, sym, ap, ◌∙◌, subst, refl, length, length-take, arith}
use Rattle.std.proofs.lemmas.List.{append-nil}
use Rattle.bw_segment.specs.Columns.{KeepRows}
use Rattle.bw_segment.proofs.ColumnLemmas.{written}
use Rattle.bw_file.proofs.EncoderLemmas.{bytes_flushed, whole_flushed}
use Rattle.bw_file.proofs.encoder.Encoder.flush.Goals as goal

pub invariant_of-self-2-clause-headed : goal.invariant_of-self-2-clause-headed
invariant_of-self-2-clause-headed c =
    let old = c.args.self.now.bytes.items in
    omega (arith, ap length c.in_ok-append.ensures.front, length-take (length old) c.append.new.bytes.items, c.args.self.now.headed)

pub invariant_of-self-2-clause-all : goal.invariant_of-self-2-clause-all
invariant_of-self-2-clause-all c =
    let given = ap length c.deref_mut.ensures.value in
    let size : length c.clear_rows.new.kept ≡ c.args.self.now.kept.len = omega (arith, c.clear_rows.auto.kept, c.deref_mut.ensures.len) in
    ap length (written c.clear_rows.new.kept c.args.self.now.kept.items c.args.self.now.kept.len size) ∙ omega (arith, c.clear_rows.auto.kept, given, c.args.self.now.all)

pub returns-clause-bytes : goal.returns-clause-bytes
returns-clause-bytes c = λ rows holds.
    let columns = c.args.self.now.placement.schema.columns.items in
    bytes_flushed c.args.self.now rows _ c.requires holds (c.in_ok-append.ensures.added holds.group (subst (KeepRows columns holds.group) (sym c.deref.ensures.value) holds.kept))

pub returns-clause-holds : goal.returns-clause-holds
returns-clause-holds c = λ rows holds full.
    let columns = c.args.self.now.placement.schema.columns.items in
    let given = ap length c.deref_mut.ensures.value in
    let size : length c.clear_rows.new.kept ≡ c.args.self.now.kept.len = omega (arith, c.clear_rows.auto.kept, c.deref_mut.ensures.len) in
    record {
      before = rows;
      group = [];
      groups = suc holds.groups;
      parts = sym (append-nil rows);
      whole = whole_flushed c.args.self.now rows full holds;
      text = bytes_flushed c.args.self.now rows _ c.requires holds (c.in_ok-append.ensures.added holds.group (subst (KeepRows columns holds.group) (sym c.deref.ensures.value) holds.kept));
      kept = subst (KeepRows columns []) (sym (written c.clear_rows.new.kept c.args.self.now.kept.items c.args.self.now.kept.len size)) (c.clear_rows.ensures columns (omega (arith, given, c.args.self.now.all)));
      filled = refl;
      count = holds.count;
      admitted = holds.admitted;
    }
