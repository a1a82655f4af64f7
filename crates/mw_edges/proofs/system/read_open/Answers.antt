use Rattle.std.proofs.Common.{arith, subst, sym, ◌<◌, ◌≤◌, length, List, ℕ}
use Rattle.mw_edges.specs.Files.{open_file}
use Rattle.mw_edges.specs.Folders.{GivesFile}
use Rattle.mw_edges.specs.declared.folder.FileRead.TheVariants.{Whole}
use Rattle.mw_edges.proofs.Fronts.{gives-whole}
use Rattle.mw_edges.proofs.system.read_open.Goals as goal

pub returns-in-Ok-2 : goal.returns-in-Ok-2
returns-in-Ok-2 g c =
    let read = c.read_to_end.new.buf in
    let within : length read.items ≤ c.args.limit = grind (arith, c.len.ensures, c.if-len-limit.false, read.ok) in
    let before : length read.items < c.take-front.result.limit =
    omega (arith, within, read.ok, read.small, c.take-front.ensures.limit, c.saturating_add.ensures) in
    let front = rw c.take-front.ensures.inner at c.in-Ok.ensures.bytes in
    let gives = gives-whole (g.F.Read.remaining c.args.file) c.args.limit c.take-front.result.limit
    c.new-bytes.result.items read.items c.new-bytes.ensures.items front within before in
    let P : List ℕ → Type 0 = λ l. GivesFile (open_file (g.F.Read.remaining c.args.file)) c.args.limit (Whole l) in
    subst P (sym c.from_vec.ensures) gives
