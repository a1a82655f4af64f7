use Rattle.std.proofs.Common.{arith}
use Rattle.mw_journal.proofs.Gates.{seen}
use Rattle.mw_journal.proofs.scan.read_gate.Goals as goal

pub returns-in-Ok-judge_gate-clause-sees : goal.returns-in-Ok-judge_gate-clause-sees
returns-in-Ok-judge_gate-clause-sees g c f told =
    seen (g.D.Disk.told c.args.disk.now) f c.read.new.into c.split_at.result.0.now c.args.place c.in-Ok.count told
    c.in-Ok.ensures.bytes (omega (arith, c.read.auto.into)) c.split_at.ensures.front c.judge_gate.ensures.bytes
    c.in-Ok-judge_gate.gate c.in-Ok-judge_gate.ensures.answer
