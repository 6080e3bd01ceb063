use Rattle.std.proofs.Common.{refl}
use Rattle.bw_model.specs.Groups.{group_size}
use Rattle.bw_model.proofs.GroupLemmas.{groups_of-nothing, groups_of-first, groups_of-table}
use Rattle.bw_model.proofs.GroupLemmas.{groups_of-count, groups_of-sizes}
use Rattle.bw_model.proofs.groups.groups_make_the_table.Goals as goal

pub returns : goal.returns
unfolding group_size
returns c = record {
  size = refl;
  nothing = groups_of-nothing;
  first = groups_of-first;
  table = groups_of-table;
  count = groups_of-count;
  sizes = groups_of-sizes;
}
