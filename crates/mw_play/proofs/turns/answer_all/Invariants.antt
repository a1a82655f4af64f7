use Rattle.std.proofs.Common.{◌≡◌, ◌≤◌, ◌++◌, take}
use Rattle.mw_play.specs.Turns.{messages_of}
use Rattle.mw_play.proofs.turns.answer_all.Given as goal

-- the messages of the answers so far
abbrev pub invariant-loop-wanted : goal.invariant-loop-wanted
invariant-loop-wanted g l = record {
  sent : g.L.Link.sent l.line ≡ g.L.Link.sent l.fn.line ++ messages_of l.fn.player (take l.wanted-index l.answers);
  heard : g.L.Link.heard l.line ≡ g.L.Link.heard l.fn.line;
  later : g.L.Link.faults l.fn.line ≤ g.L.Link.faults l.line;
}
