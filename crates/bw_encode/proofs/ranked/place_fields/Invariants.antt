use Rattle.std.proofs.Common.{◌≡◌, length, take}
use Rattle.bw_encode.specs.Fields.{texts_under}
use Rattle.bw_encode.specs.Ranked.{ArePlaced, ArePrefixed, entries_bytes}
use Rattle.bw_encode.proofs.ranked.place_fields.Given as goal

-- the fields before this one have their places
abbrev pub invariant-loop-place : goal.invariant-loop-place
invariant-loop-place l = record {
  bytes : entries_bytes l.entries.items ≡ texts_under (take l.place l.fields);
  size : length l.entries.items ≡ l.place;
  placed : ArePlaced l.entries.items;
  prefixed : ArePrefixed l.entries.items;
}
