use Rattle.std.proofs.Common.{◌≡◌, List, ℕ, Some, ap, sym, subst, ◌∙◌}
use Rattle.mw_disk.specs.declared.disk.DiskError.{DiskError}
use Rattle.mw_edges.specs.Files.{with_entry, HasPut}
use Rattle.mw_edges.specs.Memory.{MemoryFiles}
use Rattle.mw_edges.proofs.Replaced.{put}
use Rattle.mw_edges.proofs.memory_folder.MemoryFolder.with_failing_disk.Goals as goal

abbrev Plan : Type 0
Plan = List (ℕ × DiskError)

pub returns-clause-disk_plans : goal.returns-clause-disk_plans
returns-clause-disk_plans c =
    let plans : c.folder.inside.disk_plans.items ≡ c.args.self.disk_plans = ap (λ (f : MemoryFiles). f.disk_plans) c.folder.view_is in
    let now = c.in_ok-put_entry.ensures.ok ∙ ap (λ (l : List (List ℕ × Plan)). with_entry l c.args.name c.args.failing) plans in
    let P : List (List ℕ × Plan) → Type 0 = λ l. HasPut c.args.self.disk_plans l c.args.name (Some c.args.failing) in
    subst P (sym now) (put c.args.self.disk_plans c.args.name c.args.failing)
