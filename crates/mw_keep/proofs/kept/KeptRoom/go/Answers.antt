use Rattle.mw_keep.specs.Views.{call_view}
use Rattle.mw_keep.proofs.Acting.{not_stopped}
use Rattle.mw_keep.proofs.kept.KeptRoom.go.Goals as goal

pub returns-in-Open-clause-goes : goal.returns-in-Open-clause-goes
returns-in-Open-clause-goes g c digest life keeps accepted = rw c.in-Open.is (c.let_happen.ensures.goes digest life keeps (not_stopped life (call_view c.args.call) accepted))

pub returns-in-Packet-clause-goes : goal.returns-in-Packet-clause-goes
returns-in-Packet-clause-goes g c digest life keeps accepted = rw c.in-Packet.is (c.let_happen-in-Packet.ensures.goes digest life keeps (not_stopped life (call_view c.args.call) accepted))

pub returns-in-Bad-clause-goes : goal.returns-in-Bad-clause-goes
returns-in-Bad-clause-goes g c digest life keeps accepted = rw c.in-Bad.is (c.let_happen-in-Bad.ensures.goes digest life keeps (not_stopped life (call_view c.args.call) accepted))

pub returns-in-Lost-clause-goes : goal.returns-in-Lost-clause-goes
returns-in-Lost-clause-goes g c digest life keeps accepted = rw c.in-Lost.is (c.let_happen-in-Lost.ensures.goes digest life keeps (not_stopped life (call_view c.args.call) accepted))
