use Rattle.std.proofs.Common.{◌≡◌, ◌∙◌, sym, true, subst, refl}
use Rattle.bw_model.specs.Name.{is_name}
use Rattle.bw_encode.specs.Table.{column_name}
use Rattle.bw_encode.proofs.NameLemmas.{valid_name}
use Rattle.bw_encode.proofs.table.name_of.Goals as goal

pub new-requires : goal.new-requires
new-requires c =
    let text : c.deref.result.now ≡ column_name c.args.place =
    c.deref.ensures.value ∙ c.in_ok-extend_from_slice.ensures.items ∙ rw (c.in_ok-name.ensures.items, c.as_bytes.ensures.value, c.format.ensures.text) refl in
    subst (λ t. is_name t ≡ true) (sym text) (valid_name c.args.place c.requires)
