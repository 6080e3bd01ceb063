-- Each turn makes one column more.
use Rattle.std.proofs.Common.{◌≡◌, ◌∙◌, ◌<◌, true, subst, sym, ap, length, arith}
use Rattle.std.proofs.lemmas.List.{length-map}
use Rattle.bw_model.specs.Name.{are_apart}
use Rattle.bw_encode.specs.Coded.{encoding_of}
use Rattle.bw_encode.specs.Table.{column_names}
use Rattle.bw_encode.proofs.NameLemmas.{apart_names, valid_table}
use Rattle.bw_encode.proofs.TableLemmas.{AreMade, any_default, made_none, made_more, size_made, are_schema}
use Rattle.bw_encode.proofs.table.schema_of.Goals as goal

pub new-requires : goal.new-requires
new-requires c = valid_table

pub loop-place-init : goal.loop-place-init
loop-place-init c = rw c.in_ok-all.ensures.items (made_none c.args.columns.now)

pub loop-place-preserved : goal.loop-place-preserved
loop-place-preserved c =
    let lt : c.loop-place.place < length c.args.columns.now = omega arith in
    rw c.in_ok-push.ensures.items (made_more c.args.columns.now c.loop-place.all.items c.loop-place.place c.in_ok-column_of.field-0 c.index-columns-place.result c.loop-place.invariant
    c.in_ok-column_of.ensures.name (λ d. any_default c.args.columns.now c.loop-place.place d c.index-columns-place.result lt ∙ sym c.index-columns-place.is) c.in_ok-column_of.ensures.narrow)

pub invariant_of-result : goal.invariant_of-result
invariant_of-result c =
    let place : c.loop-place.place ≡ length c.args.columns.now = omega arith in
    let size = size_made c.args.columns.now c.loop-place.all.items c.loop-place.place c.loop-place.invariant in
    record {
      inhabited = omega (arith, c.requires.some);
      limited = omega (arith, c.requires.within);
      apart = subst (λ names. are_apart names ≡ true) (sym c.loop-place.invariant.names) (apart_names c.loop-place.place (omega (arith, c.requires.within)));
    }

pub returns : goal.returns
returns c =
    let place : c.loop-place.place ≡ length c.args.columns.now = omega arith in
    let made = subst (AreMade c.args.columns.now c.loop-place.all.items) place c.loop-place.invariant in
    record {
      table = c.in_ok-new.ensures;
      names = made.names ∙ ap column_names (sym (length-map c.args.columns.now encoding_of));
      narrow = are_schema c.args.columns.now c.loop-place.all.items made;
    }
