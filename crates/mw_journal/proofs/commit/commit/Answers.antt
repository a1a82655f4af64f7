use Rattle.std.proofs.Common.{◌≡◌, ◌+◌, [], ◌∷◌, ◌++◌, ℕ, List, length, inl, inr, Some, sym, subst, ◌∙◌}
use Rattle.mw_disk.specs.Range.{written}
use Rattle.mw_disk.proofs.Moments.{then_on, wider}
use Rattle.mw_journal.specs.Settled.{IsSettled, IsStaged, AllShut}
use Rattle.mw_journal.specs.Image.{IsShut}
use Rattle.mw_journal.proofs.Batches.{shut_torn, shut_put, staged_torn, staged_opened}
use Rattle.mw_journal.proofs.Told.{told_before, on_ok}
use Rattle.mw_journal.proofs.commit.commit.Given
use Rattle.mw_journal.proofs.commit.commit.Goals as goal

pub returns-in_err-put_safely-clause-any_moment : goal.returns-in_err-put_safely-clause-any_moment
returns-in_err-put_safely-clause-any_moment g c digest text shut =
    wider g.D.Disk.moment g.D.Disk.left_since c.args.disk.now c.put_safely.new.disk _ _ c.put_safely.ensures.any_moment
    (λ f torn. inl (c.args.place, shut_torn torn.0 digest text c.args.place 0 _ f (shut torn.0 torn.1) torn.2))

-- after the first step each image is staged
module _ (g : Given.Over) (c : goal.After-put_safely-2 g) where
  staged : (digest text : List ℕ) → AllShut (g.D.Disk.may_leave c.args.disk.now) digest text c.args.place
      → (f : List ℕ) → g.D.Disk.told c.put_safely.new.disk ≡ Some f → IsStaged f digest text c.args._body.now c.args.place
  staged digest text shut f told =
      let was = told_before (written (c.args.place + 1) c.args.bytes.now) (g.D.Disk.told c.args.disk.now) f (sym c.in_ok-put_safely.ensures.written ∙ told) in
      let image = shut was.0 (g.met.D.Disk.told_may_stay c.args.disk.now was.0 was.1) in
      subst (λ l. IsStaged l digest text c.args._body.now c.args.place) (sym was.2)
      (shut_put was.0 digest text c.args._body.now c.args.bytes.now c.args.place 0 image c.requires.framed c.requires.some c.requires.within)

pub returns-clause-any_moment : goal.returns-clause-any_moment
returns-clause-any_moment g c digest text shut =
    let P = λ (f : List ℕ). IsSettled f digest text c.args._body.now in
    let first = wider g.D.Disk.moment g.D.Disk.left_since c.args.disk.now c.put_safely.new.disk _ P c.put_safely.ensures.any_moment
    (λ f torn. inl (c.args.place, shut_torn torn.0 digest text c.args.place 0 _ f (shut torn.0 torn.1) torn.2)) in
    then_on g.D.Disk.moment g.D.Disk.left_since c.args.disk.now c.put_safely.new.disk c.put_safely-2.new.disk P _ first c.put_safely-2.ensures.any_moment
    (λ f torn. inr (
      c.args.place,
      staged_torn torn.0 digest text c.args._body.now c.args.place f
          (staged g c digest text shut torn.0 (c.in_ok-put_safely.ensures.safe torn.0 torn.1)) torn.2,
    ))

pub returns-clause-ok : goal.returns-clause-ok
returns-clause-ok g c = on_ok c.put_safely-2.result c.put_safely-2.ensures.written c.put_safely-2.ensures.safe
    (λ put safe digest text shut f left.
    let was = told_before (written c.args.place (1 ∷ [])) (g.D.Disk.told c.put_safely.new.disk) f (sym put ∙ safe f left) in
    subst (λ l. IsShut l digest (text ++ c.args._body.now) (c.args.place + 5 + length c.args._body.now) 0) (sym was.2)
    (staged_opened was.0 digest text c.args._body.now c.args.place (staged g c digest text shut was.0 was.1)))
