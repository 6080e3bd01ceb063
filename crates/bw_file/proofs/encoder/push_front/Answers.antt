use Rattle.std.proofs.Common.{◌≡◌, ◌++◌, ◌∷◌, []}
use Rattle.std.specs.Int.{w16, w32, to_le_bytes}
use Rattle.bw_file.specs.FileBytes.{front_bytes, magic, layout_byte}
use Rattle.bw_file.proofs.EncoderLemmas.{front_added}
use Rattle.bw_file.proofs.encoder.push_front.Goals as goal

pub returns-clause-front : goal.returns-clause-front
unfolding front_bytes
returns-clause-front c =
    let e1 : c.extend_from_slice.new.self.items ≡ c.args.bytes.now.items ++ magic c.args.order = rw c.magic_bytes.ensures at c.in_ok-extend_from_slice.ensures.items in
    let e2 : c.push.new.self.items ≡ c.extend_from_slice.new.self.items ++ c.args.version ∷ [] = c.in_ok-push.ensures.items in
    let e3 : c.push-2.new.self.items ≡ c.push.new.self.items ++ layout_byte c.args.layout ∷ [] = rw (← c.byte_of.ensures) c.in_ok-push-2.ensures.items in
    let e4 : c.extend_from_slice-2.new.self.items ≡ c.push-2.new.self.items ++ to_le_bytes w16 c.args.columns = rw c.write_u16.ensures at c.in_ok-extend_from_slice-2.ensures.items in
    let e5 : c.extend_from_slice-3.new.self.items ≡ c.extend_from_slice-2.new.self.items ++ to_le_bytes w32 0 = c.in_ok-extend_from_slice-3.ensures.items in
    front_added _ _ _ _ _ _ (magic c.args.order) (to_le_bytes w16 c.args.columns) (to_le_bytes w32 0) c.args.version (layout_byte c.args.layout) e1 e2 e3 e4 e5
