use Rattle.mw_session.proofs.Owed.{serves_owed}
use Rattle.mw_session.proofs.session.serve_session.Goals as goal

pub returns-clause-owed : goal.returns-clause-owed
returns-clause-owed g c =
    let L = g.L.Link in let k = c.serve-session.ensures in
    serves_owed c.lives_keep.ensures g.D.Disk.may_leave c.args.pass c.serve-session.new.pass c.args.time k.0 k.1 k.2 _ c.serve-session.result.0 c.serve-session.result.1 k.3 k.5 c.tells_truly.ensures
