-- Readings by a folder that has read before.
use Rattle.std.proofs.Common.{inl, inr, ℕ, ◌-◌, List, [], ◌∷◌, length, Option, Bool}
use Rattle.std.specs.Prelude.{IsTrue}
use Rattle.mw_edges.specs.Folders.{MayBeUnread}
use Rattle.mw_causes.specs.Tables.{Files, world_limit, IsUnread, IsWorldStopped, AreWorldsStopped}
use Rattle.mw_causes.specs.declared.stop.Stop.{Stop}
use Rattle.mw_causes.specs.declared.stop.Stop.TheVariants.{Fault, Memory, Refused}
use Rattle.mw_causes.specs.declared.table_cause.TableCause.{TableCause}
use Rattle.mw_causes.specs.declared.table_cause.TableCause.TheVariants.{TooLong, File, Joined}

-- what may fail later may fail before
module _ (later before : Bool) (sound : IsTrue later → IsTrue before) where
  pub unread_before : (told : Option (Option (List ℕ))) → MayBeUnread told later → MayBeUnread told before
  unread_before told (inl none) = inl none
  unread_before told (inr may) = inr (sound may)

  pub table_before : (told : Option (Option (List ℕ))) (limit : ℕ) (name : List ℕ) (stop : Stop TableCause) → IsUnread told later limit name stop → IsUnread told before limit name stop
  table_before told limit name Fault h = unread_before told h
  table_before told limit name Memory h = h
  table_before told limit name (Refused (TooLong file)) h = h
  table_before told limit name (Refused (File file kind path)) h = h
  table_before told limit name (Refused (Joined refusal)) h = h

  pub world_before : (told : Option (Option (List ℕ))) (limit : ℕ) (name : List ℕ) (stop : Stop TableCause) → IsWorldStopped told later limit name stop → IsWorldStopped told before limit name stop
  world_before told limit name stop (inl h) = inl (table_before told limit name stop h)
  world_before told limit name stop (inr h) = inr h

  pub worlds_before : (files : Files) (left : ℕ) (names : List (List ℕ)) (stop : Stop TableCause) → AreWorldsStopped files later left names stop → AreWorldsStopped files before left names stop
  worlds_before files left [] stop h = h
  worlds_before files left (name ∷ names) stop (inl h) = inl (world_before (files name) (world_limit left) name stop h)
  worlds_before files left (name ∷ names) stop (inr h) = inr (h.0, h.1, h.2, h.3, worlds_before files (left - length h.0) names stop h.4)
