use lib.ListN.{take}
use Rattle.octets.specs.Writing.{Wrote}
use Rattle.queries.specs.Queries.{flow_tlvs}
use Rattle.queries.proofs.put_flows.Given as goal

abbrev pub invariant-loop-k : goal.invariant-loop-k
invariant-loop-k l = Wrote (flow_tlvs l.channels (take l.k-index l.ks)) l.at l.initial.buf l.buf
