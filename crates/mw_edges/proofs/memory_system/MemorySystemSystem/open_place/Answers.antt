use Rattle.std.proofs.Common.{◌≡◌, ◌∙◌, ℕ, Some, Vec, Global, ap, subst, sym}
use Rattle.std.specs.Option.{option_map}
use Rattle.mw_disk.specs.FileLogs.{FileLog, Leaves}
use Rattle.mw_edges.specs.Files.{entry_of}
use Rattle.mw_edges.specs.LeftFiles.{bytes_left}
use Rattle.mw_edges.proofs.MemorySystems.{opened_stays}
use Rattle.mw_edges.proofs.memory_system.MemorySystemSystem.open_place.Goals as goal

pub returns-in-Some-clause-left : goal.returns-in-Some-clause-left
returns-in-Some-clause-left c = λ image now.
    let found : Some c.in-Some.bytes.items ≡ bytes_left (entry_of c.args.self.now.left c.args.name.now) = sym (ap (option_map (λ (v : Vec ℕ Global). v.items)) c.in-Some.is) ∙ c.in_ok-bytes.ensures in
    opened_stays c.args.self.now.left c.args.name.now c.in-Some.bytes.items found image
    (subst (λ (log : FileLog). Leaves log image) c.open.ensures now.1)
