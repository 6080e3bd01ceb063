use Rattle.std.proofs.Common.{◌∙◌, refl}
use Rattle.std.proofs.lemmas.List.{length-map}
use Rattle.bw_encode.specs.Coded.{encoding_of}
use Rattle.bw_encode.specs.FieldsText.{encoding_bytes, fields_text, magic}
use Rattle.bw_encode.proofs.TableLemmas.{flat_map-map}
use Rattle.bw_encode.proofs.fields_text.fields_text.Goals as goal

pub returns : goal.returns
unfolding fields_text magic
returns c =
    c.in_ok-push_columns.ensures
    ∙ rw (c.in_ok-push_number.ensures, c.in_ok-text.ensures.items, length-map c.args.columns.now encoding_of, flat_map-map encoding_bytes encoding_of c.args.columns.now) refl
