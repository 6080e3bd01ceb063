use Rattle.std.proofs.Common.{◌≡◌, ◌-◌, min, refl, subst, arith}
use Rattle.bw_model.specs.Groups.{group_size}
use Rattle.bw_file.specs.TableReading.{segment, IsTableFault}
use Rattle.bw_file.proofs.FaultLemmas.{refused_by, segment_own}
use Rattle.bw_file.proofs.NextLemmas.{segment_given, segment_missed}
use Rattle.bw_file.proofs.table_reader.TableReader.give_segment.Goals as goal

pub read_segment-answer-requires-clause-within_limit : goal.read_segment-answer-requires-clause-within_limit
unfolding group_size
read_segment-answer-requires-clause-within_limit g c = omega (arith, c.min-rows.ensures)

pub returns-in-Ok : goal.returns-in-Ok
unfolding group_size
returns-in-Ok g c =
    let sized : c.min-rows.result ≡ min group_size (c.args.self.now.rows - c.args.self.now.given) = omega (arith, c.min-rows.ensures) in
    segment_given _ _ _ _ c.args.self.now _ (record { version = refl; layout = refl; schema = refl; rows = refl }) _ c.min-rows.result (rw c.requires.open refl) c.requires.left (rw c.requires.open refl) sized (omega arith)
    c.in-Ok.ensures.layout c.in-Ok.ensures.name c.in-Ok.ensures.columns c.in-Ok.ensures.count c.in-Ok.ensures.reads

pub returns-in-Err : goal.returns-in-Err
unfolding group_size
returns-in-Err g c =
    let sized : c.min-rows.result ≡ min group_size (c.args.self.now.rows - c.args.self.now.given) = omega (arith, c.min-rows.ensures) in
    segment_missed _ _ _ _ c.args.self.now _ (record { version = refl; layout = refl; schema = refl; rows = refl }) c.min-rows.result _ refl c.requires.left (rw c.requires.open refl) sized c.in-Err.ensures.reads refl

pub invariant_of-self-in-Err-clause-not_reader : goal.invariant_of-self-in-Err-clause-not_reader
invariant_of-self-in-Err-clause-not_reader g c =
    let layout = c.args.self.now.layout in
    let columns = c.args.self.now.placement.value.schema.columns.items in
    let own = refused_by (segment layout columns c.min-rows.result) _ _ c.in-Err.fault (segment_own layout columns c.min-rows.result) c.in-Err.ensures.reads in
    λ fault same. let e : c.in-Err.fault ≡ fault = cc same in subst IsTableFault e own
