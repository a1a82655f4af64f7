use Rattle.std.proofs.Common.{◌≡◌, List, ℕ}
use Rattle.mw_link.specs.declared.link.Heard.{Heard}
use Rattle.mw_keep.specs.declared.call.Call.{Call}
use Rattle.mw_keep.specs.declared.reply.Reply.{Reply}
use Rattle.mw_session.specs.Passes.{Carries, Makes}
use Rattle.mw_session.specs.Sessions.{Whole}
use Rattle.mw_session.proofs.session.talk.Given as goal

abbrev pub invariant-loop : goal.invariant-loop
invariant-loop g l =
    (l.pass.lock ≡ l.room) × ((calls : List (Call × Reply)) × (heard : List Heard) × (sent : List (List ℕ))
    × Makes l.initial.pass calls l.pass
    × Carries g.L.Link.heard g.L.Link.sent g.L.Link.faults g.L.Link.opened l.initial.link l.link heard sent
    × Whole l.session calls heard sent)
