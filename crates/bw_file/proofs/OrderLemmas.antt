-- The file of a table, by its layout, its name and its columns.
use Rattle.std.proofs.Common.{◌≡◌, refl, List}
use Rattle.bw_model.specs.declared.schema.Schema.{Schema}
use Rattle.bw_model.specs.Row.{Value}
use Rattle.bw_file.specs.declared.layout.Layout.{Layout}
use Rattle.bw_file.specs.declared.order.FileOrder.{FileOrder}
use Rattle.bw_file.specs.declared.order.FileOrder.TheVariants.{ByRows, ByColumns}
use Rattle.bw_file.specs.Columnar.{bytes_in_order, columnar_bytes}

pub same_in_order : (order : FileOrder) (L M : Layout) (S T : Schema) (rows : List (List Value)) → L ≡ M → S.name ≡ T.name → S.columns.items ≡ T.columns.items
    → bytes_in_order order L S rows ≡ bytes_in_order order M T rows
unfolding columnar_bytes
same_in_order ByRows L M S T rows a b c = rw (a, b, c) refl
same_in_order ByColumns L M S T rows a b c = rw (a, b, c) refl
