use Rattle.std.proofs.Common.{◌∙◌, [], ◌∷◌, ℕ, List, sym, subst}
use Rattle.mw_disk.specs.Range.{written}
use Rattle.mw_disk.proofs.Moments.{then_on, wider}
use Rattle.mw_journal.specs.Image.{IsShut}
use Rattle.mw_journal.specs.Settled.{IsSettled}
use Rattle.mw_journal.proofs.Batches.{shut_closed}
use Rattle.mw_journal.proofs.Told.{told_before}
use Rattle.mw_journal.proofs.Unique.{settled_torn}
use Rattle.mw_journal.proofs.opening.open_bytes.Goals as goal

pub returns-then-found-eq0-clause-stands : goal.returns-then-found-eq0-clause-stands
returns-then-found-eq0-clause-stands g c f told = (c.in-Ok.found.gate, c.in-Ok.ensures.found f told)

pub returns-in-Ok-put_safely-clause-stands : goal.returns-in-Ok-put_safely-clause-stands
returns-in-Ok-put_safely-clause-stands g c f told = (c.in-Ok.found.gate, c.in-Ok.ensures.found f told)

pub returns-in-Ok-put_safely-clause-any_moment : goal.returns-in-Ok-put_safely-clause-any_moment
returns-in-Ok-put_safely-clause-any_moment g c text body settled =
    let P = λ (f : List ℕ). IsSettled f c.args.digest.now text body in
    let reads = c.in-Ok.ensures.reads in
    let first = wider g.D.Disk.moment g.D.Disk.left_since c.args.disk.now c.look.new.disk _ P reads.moments settled in
    then_on g.D.Disk.moment g.D.Disk.left_since c.args.disk.now c.look.new.disk c.put_safely.new.disk P _ first c.put_safely.ensures.any_moment
    (λ f torn. settled_torn torn.0 c.args.digest.now text body c.in-Ok.found.text.items c.in-Ok.found.place c.in-Ok.found.gate f
    (settled torn.0 (reads.stays torn.0 torn.1)) (c.in-Ok.ensures.found torn.0 (sym reads.same ∙ c.in-Ok.ensures.safe torn.0 torn.1)) c.if-found-eq0.false torn.2)

pub returns-in-Err-put_safely-clause-any_moment : goal.returns-in-Err-put_safely-clause-any_moment
returns-in-Err-put_safely-clause-any_moment g c text body settled =
    let P = λ (f : List ℕ). IsSettled f c.args.digest.now text body in
    let reads = c.in-Ok.ensures.reads in
    let first = wider g.D.Disk.moment g.D.Disk.left_since c.args.disk.now c.look.new.disk _ P reads.moments settled in
    then_on g.D.Disk.moment g.D.Disk.left_since c.args.disk.now c.look.new.disk c.put_safely.new.disk P _ first c.put_safely.ensures.any_moment
    (λ f torn. settled_torn torn.0 c.args.digest.now text body c.in-Ok.found.text.items c.in-Ok.found.place c.in-Ok.found.gate f
    (settled torn.0 (reads.stays torn.0 torn.1)) (c.in-Ok.ensures.found torn.0 (sym reads.same ∙ c.in-Ok.ensures.safe torn.0 torn.1)) c.if-found-eq0.false torn.2)

pub returns-in-Ok-put_safely-clause-shut : goal.returns-in-Ok-put_safely-clause-shut
returns-in-Ok-put_safely-clause-shut g c f left =
    let put = c.in-Ok-put_safely.ensures in
    let was = told_before (written c.in-Ok.found.place (0 ∷ [])) (g.D.Disk.told c.look.new.disk) f (sym put.written ∙ put.safe f left) in
    let shut = c.in-Ok.ensures.found was.0 (sym c.in-Ok.ensures.reads.same ∙ was.1) in
    subst (λ l. IsShut l c.args.digest.now c.in-Ok.found.text.items c.in-Ok.found.place 0) (sym was.2)
    (shut_closed was.0 c.args.digest.now c.in-Ok.found.text.items c.in-Ok.found.place c.in-Ok.found.gate shut)
