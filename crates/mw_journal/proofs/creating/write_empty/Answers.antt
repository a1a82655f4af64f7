use Rattle.std.proofs.Common.{◌≡◌, [], ◌∷◌, ◌++◌, sym, ap, subst, ◌∙◌, arith}
use Rattle.mw_disk.specs.Range.{written}
use Rattle.mw_journal.specs.Image.{header, IsShut}
use Rattle.mw_journal.proofs.Told.{told_before}
use Rattle.mw_journal.proofs.Empty.{nothing_read, written_empty, shut_empty}
use Rattle.mw_journal.proofs.creating.write_empty.Goals as goal

pub returns-in-Ok-put_safely-clause-ok : goal.returns-in-Ok-put_safely-clause-ok
returns-in-Ok-put_safely-clause-ok g c f left =
    let put = c.in-Ok-put_safely.ensures in
    let was = told_before (written 0 c.as_slice.result.now) (g.D.Disk.told c.read.new.self) f (sym put.written ∙ put.safe f left) in
    let told = sym c.read.ensures.same ∙ was.1 in
    let none = nothing_read (g.D.Disk.told c.args.disk.now) was.0 c.read.new.into c.in-Ok.count told c.in-Ok.ensures.bytes c.if-count-gt0.false (omega (arith, c.read.auto.into)) in
    let bytes : c.as_slice.result.now ≡ header c.args.digest.now ++ 0 ∷ [] = c.as_slice.ensures.value ∙ c.in-Ok-empty_journal.ensures in
    let is : f ≡ header c.args.digest.now ++ 0 ∷ [] =
    was.2 ∙ ap (written 0 c.as_slice.result.now) none ∙ written_empty c.as_slice.result.now ∙ bytes in
    subst (λ l. IsShut l c.args.digest.now [] 40 0) (sym is) (shut_empty c.args.digest.now (omega (arith, c.told-digest)))
