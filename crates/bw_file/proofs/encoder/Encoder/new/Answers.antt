use Rattle.std.proofs.Common.{◌≡◌, [], refl, arith, ◌∙◌, lit≤}
use Rattle.bw_file.specs.declared.order.FileOrder.TheVariants.{ByRows}
use Rattle.bw_file.specs.FileBytes.{header_bytes, version_for}
use Rattle.bw_file.proofs.EncoderLemmas.{header_long, segments_none}
use Rattle.bw_file.proofs.encoder.Encoder.new.Goals as goal

pub invariant_of-result-clause-headed : goal.invariant_of-result-clause-headed
invariant_of-result-clause-headed c =
    let columns = c.in_ok-placement.placement.schema.columns.items in
    let head = header_bytes ByRows (version_for columns) c.args.layout c.in_ok-placement.placement.schema.name columns 0 in
    let version : c.version_of-version.result ≡ version_for columns = rw c.deref.ensures.value at c.version_of-version.ensures in
    let text : c.push_header.new.bytes.items ≡ head = rw (version, c.new-bytes.ensures.items) at c.in_ok-push_header.ensures.header in
    rw text (header_long ByRows (version_for columns) c.args.layout c.in_ok-placement.placement.schema.name columns 0)

pub returns-clause-holds : goal.returns-clause-holds
returns-clause-holds c =
    let columns = c.in_ok-placement.placement.schema.columns.items in
    let head = header_bytes ByRows (version_for columns) c.args.layout c.in_ok-placement.placement.schema.name columns 0 in
    let version : c.version_of-version.result ≡ version_for columns = rw c.deref.ensures.value at c.version_of-version.ensures in
    let text : c.push_header.new.bytes.items ≡ head = rw (version, c.new-bytes.ensures.items) at c.in_ok-push_header.ensures.header in
    record {
      before = [];
      group = [];
      groups = 0;
      parts = refl;
      whole = omega arith;
      text = text ∙ segments_none c.args.layout columns head;
      kept = c.in_ok-kept.ensures.keeps columns (omega (arith, c.len.ensures));
      filled = refl;
      count = refl;
      admitted = record { within_limit = lit≤ tt; admitted = refl };
    }
