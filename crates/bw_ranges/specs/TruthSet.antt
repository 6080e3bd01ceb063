-- Sets of truth values, and what AND, OR, NOT and IS of truth values in them may be.
use Rattle.std.specs.Prelude.{Bool, false, List, [], ◌∷◌, ◌&&◌, ◌||◌}
use Rattle.bw_model.specs.declared.cond.Truth.{Truth}
use Rattle.bw_model.specs.declared.cond.Truth.TheVariants.{No, Unknown, Yes}
use Rattle.bw_model.specs.Truth.{is_truth}
use Rattle.bw_ranges.specs.declared.truth_set.TruthSet.{TruthSet}

-- the truth value is in the set
abbrev pub has_truth : TruthSet → Truth → Bool
has_truth truths No = truths.no
has_truth truths Unknown = truths.unknown
has_truth truths Yes = truths.yes

-- a truth value other than this one is in the set
abbrev pub has_other : TruthSet → Truth → Bool
has_other truths No = truths.unknown || truths.yes
has_other truths Unknown = truths.no || truths.yes
has_other truths Yes = truths.no || truths.unknown

-- the set of one truth value
abbrev pub one_truth : Truth → TruthSet
one_truth truth = record {
  no = is_truth truth No;
  unknown = is_truth truth Unknown;
  yes = is_truth truth Yes;
}

-- NOT exchanges TRUE and FALSE
abbrev pub opposite : TruthSet → TruthSet
opposite truths = record { no = truths.yes; unknown = truths.unknown; yes = truths.no }

-- AND may be FALSE if either may be FALSE, and TRUE if both may be TRUE. It may be UNKNOWN if one
-- may be UNKNOWN, and the other UNKNOWN or TRUE.
abbrev pub both : TruthSet → TruthSet → TruthSet
both truths others = record {
  no = truths.no || others.no;
  unknown = truths.unknown && (others.unknown || others.yes) || truths.yes && others.unknown;
  yes = truths.yes && others.yes;
}

-- OR may be TRUE if either may be TRUE, and FALSE if both may be FALSE. It may be UNKNOWN if one
-- may be UNKNOWN, and the other UNKNOWN or FALSE.
abbrev pub either : TruthSet → TruthSet → TruthSet
either truths others = record {
  no = truths.no && others.no;
  unknown = truths.unknown && (others.unknown || others.no) || truths.no && others.unknown;
  yes = truths.yes || others.yes;
}

-- AND and OR of a list
abbrev pub all_of_sets : List TruthSet → TruthSet
all_of_sets [] = one_truth Yes
all_of_sets (truths ∷ sets) = both truths (all_of_sets sets)

abbrev pub any_of_sets : List TruthSet → TruthSet
any_of_sets [] = one_truth No
any_of_sets (truths ∷ sets) = either truths (any_of_sets sets)

-- IS may be TRUE if the truth value that is wanted is in the set, and FALSE if another one is
abbrev pub test : TruthSet → Truth → TruthSet
test truths wanted = record {
  no = has_other truths wanted;
  unknown = false;
  yes = has_truth truths wanted;
}
