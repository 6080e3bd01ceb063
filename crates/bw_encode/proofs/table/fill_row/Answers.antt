use Rattle.std.proofs.Common.{◌≡◌, ◌∙◌, sym, ap, map, None, get_or, take, arith, List}
use Rattle.std.proofs.lemmas.List.{take_all}
use Rattle.bw_encode.specs.declared.coded.Coded.{Coded}
use Rattle.bw_encode.specs.Coded.{encoding_of}
use Rattle.bw_encode.specs.Column.{Encoding, values_in}
use Rattle.bw_encode.proofs.TableLemmas.{map-map}
use Rattle.bw_encode.proofs.table.fill_row.Goals as goal

pub returns : goal.returns
returns c =
    let whole : take c.loop-column.column-index c.args.columns.now ≡ c.args.columns.now = take_all c.loop-column.column-index c.args.columns.now (omega arith) in
    c.loop-column.invariant ∙ ap (λ (xs : List Coded). map (λ column. get_or (values_in (encoding_of column)) c.args.number None) xs) whole
    ∙ sym (map-map (λ (e : Encoding). get_or (values_in e) c.args.number None) encoding_of c.args.columns.now)
