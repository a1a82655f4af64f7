use Rattle.std.proofs.Common.{◌≡◌, ◌++◌, ℕ, drop, take, map}
use Rattle.mw_owed.specs.Shared.{IsShared}
use Rattle.mw_room.specs.Fits.{ChangesFit}
use Rattle.mw_room.specs.Views.{session_view, changed, due_after}
use Rattle.mw_room.proofs.Sparse.{Below}
use Rattle.mw_room.proofs.changes.changes_for.Given as goal

-- what is shared is the effect's, the first sessions have their changes, and the others none
abbrev pub invariant-loop-at : goal.invariant-loop-at
invariant-loop-at l = record {
  shared : IsShared l.standing.log.seed l.effect l.shared;
  done : (length : ℕ) → changed length (map session_view l.sessions) l.changes.items
      ≡ map (due_after l.standing l.effect l.sender length) (map session_view (take l.at l.sessions))
      ++ map session_view (drop l.at l.sessions);
  fit : ChangesFit 0 l.sessions l.changes.items;
  below : Below l.at l.changes.items;
}
