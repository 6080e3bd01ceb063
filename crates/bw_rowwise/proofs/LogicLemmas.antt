-- AND and OR of three truth values.
use Rattle.std.proofs.Common.{◌≡◌, refl}
use Rattle.bw_model.specs.declared.cond.Truth.{Truth}
use Rattle.bw_model.specs.declared.cond.Truth.TheVariants.{No, Unknown, Yes}
use Rattle.bw_model.specs.Truth.{least, greatest}

pub least_assoc : (a b c : Truth) → least (least a b) c ≡ least a (least b c)
least_assoc Unknown Unknown Yes = refl
least_assoc _ _ _ = refl

pub greatest_assoc : (a b c : Truth) → greatest (greatest a b) c ≡ greatest a (greatest b c)
greatest_assoc Unknown Unknown Yes = refl
greatest_assoc _ _ _ = refl

pub greatest_comm : (a b : Truth) → greatest a b ≡ greatest b a
greatest_comm No Yes = refl
greatest_comm Unknown Yes = refl
greatest_comm Yes Yes = refl
greatest_comm _ _ = refl
