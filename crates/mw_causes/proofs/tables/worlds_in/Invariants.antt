use Rattle.std.proofs.Common.{◌≡◌, ◌≤◌, ℕ, List, ◌++◌, drop}
use Rattle.std.specs.Prelude.{IsTrue}
use Rattle.mw_multi.specs.World.{World}
use Rattle.mw_causes.specs.Tables.{max_world_files, WorldsOf, AreWorldsStopped}
use Rattle.mw_causes.specs.declared.stop.Stop.{Stop}
use Rattle.mw_causes.specs.declared.table_cause.TableCause.{TableCause}
use Rattle.mw_causes.proofs.tables.worlds_in.Given as goal

-- what is left to read goes with what was read
abbrev pub invariant-loop-file : goal.invariant-loop-file
invariant-loop-file g l = record {
  worlds : (ws : List World) → WorldsOf (g.F.Folder.holds l.initial.folder) l.left (drop l.file-index l.files) ws
      → WorldsOf (g.F.Folder.holds l.initial.folder) max_world_files l.files (l.worlds ++ ws);
  stopped : (stop : Stop TableCause) → AreWorldsStopped (g.F.Folder.holds l.initial.folder) (g.F.Folder.may_fail l.initial.folder) l.left (drop l.file-index l.files) stop
      → AreWorldsStopped (g.F.Folder.holds l.initial.folder) (g.F.Folder.may_fail l.initial.folder) max_world_files l.files stop;
  same : (n : List ℕ) → g.F.Folder.holds l.folder n ≡ g.F.Folder.holds l.initial.folder n;
  later : g.F.Folder.faults l.initial.folder ≤ g.F.Folder.faults l.folder;
  sound : IsTrue (g.F.Folder.may_fail l.folder) → IsTrue (g.F.Folder.may_fail l.initial.folder);
  unrefused : g.F.Folder.refusals l.folder ≡ g.F.Folder.refusals l.initial.folder;
}
