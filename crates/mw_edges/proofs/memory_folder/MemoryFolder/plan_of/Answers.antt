use Rattle.std.proofs.Common.{◌≡◌, List, ℕ, [], Some, None, Option, ap, ◌∙◌}
use Rattle.std.specs.Prelude.{unwrap_or}
use Rattle.mw_disk.specs.declared.disk.DiskError.{DiskError}
use Rattle.mw_edges.specs.Files.{entry_of}
use Rattle.mw_edges.specs.Memory.{MemoryFiles}
use Rattle.mw_edges.proofs.memory_folder.MemoryFolder.plan_of.Goals as goal

abbrev Plan : Type 0
Plan = List (ℕ × DiskError)

pub returns-in_ok-from_slice-in-Some : goal.returns-in_ok-from_slice-in-Some
returns-in_ok-from_slice-in-Some c =
    let plans : c.as_slice.result.now ≡ c.args.self.now.disk_plans = c.as_slice.ensures.value ∙ ap (λ (f : MemoryFiles). f.disk_plans) c.self.view_is in
    let found : Some c.in-Some.plan.now ≡ entry_of c.args.self.now.disk_plans c.args.name.now =
    c.in-Some.ensures ∙ ap (λ (l : List (List ℕ × Plan)). entry_of l c.args.name.now) plans in
    let copied : c.from_vec.result ≡ c.in-Some.plan.now = c.from_vec.ensures ∙ c.in_ok-from_slice-in-Some.ensures.items ∙ c.as_slice-in-Some.ensures in
    copied ∙ ap (λ (o : Option Plan). unwrap_or o []) found

pub returns-in-None : goal.returns-in-None
returns-in-None c =
    let plans : c.as_slice.result.now ≡ c.args.self.now.disk_plans = c.as_slice.ensures.value ∙ ap (λ (f : MemoryFiles). f.disk_plans) c.self.view_is in
    let found : (let none : Option Plan = None in none) ≡ entry_of c.args.self.now.disk_plans c.args.name.now =
    c.in-None.ensures ∙ ap (λ (l : List (List ℕ × Plan)). entry_of l c.args.name.now) plans in
    c.new.ensures ∙ ap (λ (o : Option Plan). unwrap_or o []) found
