use Rattle.std.proofs.Common.{ap, ◌++◌, ◌∷◌, [], ◌∙◌, ◌+◌}
use Rattle.mw_session.specs.Desks.{weight_of}
use Rattle.mw_session.proofs.Workers.{report_more}
use Rattle.mw_session.proofs.worker.step.Goals as goal

pub returns-in-Line : goal.returns-in-Line
returns-in-Line g c = record { report = report_more g.G.Line.Link.heard g.G.Line.Link.sent g.G.Line.Link.faults g.G.Line.Link.opened g.G.Line.Link.is_shut c.args.room.now c.args.report.pass c.serve_line-entry.new.pass c.args.report.share.parts c.args.report.share.amount c.next-next.new.mine.parts c.next-next.new.mine.amount c.args.report.served.items c.push_reserved.new.self.items c.serve_line-entry.result.0 c.args.report.over c.args.report.stopped c.serve_line-entry.result.1 c.or-report.result c.requires.report c.serve_line-entry.ensures c.next-next.ensures.parts (c.next-next.ensures.amount ∙ ap (λ r. c.args.report.share.amount + weight_of r) c.in-Line.is) (c.push_reserved.ensures.items ∙ ap (λ l. l ++ c.serve_line-entry.result.0 ∷ []) c.reserve.ensures.items) c.or-report.ensures }
