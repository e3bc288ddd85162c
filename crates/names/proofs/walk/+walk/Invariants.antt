-- What is left of the chain, from the state that the sink has come to, is what the whole chain was from the first.
use Rattle.std.proofs.Common.{◌≡◌}
use Rattle.records.specs.Chains.{as_chain}
use Rattle.names.specs.Sinks.{each}
use Rattle.names.specs.NameWalks.{listed}
use Rattle.names.proofs.walk.+walk.Given as goal

abbrev pub decreases-walk : goal.decreases-walk
decreases-walk g l = l.chain.left

abbrev pub invariant-loop-node : goal.invariant-loop-node
invariant-loop-node g l =
    let take = g.S.NameSink.takes in
    let held = g.S.NameSink.held in
    let names = listed g.R.Rule.gives g.R.Rule.inside l.rule in
    (l.node-iterator.left ≡ l.initial.node-iterator.left)
    × (each take (names (as_chain l.initial.node-iterator)) (held l.initial.sink)
    ≡ each take (names (as_chain l.node-iterator)) (held l.sink))
    × (g.S.NameSink.fixed l.sink ≡ g.S.NameSink.fixed l.initial.sink)
