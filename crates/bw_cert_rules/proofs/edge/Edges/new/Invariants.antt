use Rattle.std.proofs.Common.{◌≡◌, [], map, replicate}
use Rattle.bw_cert_rules.proofs.edge.Edges.new.Given as goal

-- this many targets without edges
abbrev pub invariant-loop : goal.invariant-loop
invariant-loop l = record {
  empty : map (λ each. each.items) l.by_target.items ≡ replicate l.counter [];
}
