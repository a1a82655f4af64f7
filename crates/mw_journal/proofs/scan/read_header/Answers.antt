use Rattle.std.proofs.Common.{◌≡◌, ◌∙◌, ℕ, List, length, take, ap, arith, Some}
use Rattle.mw_journal.specs.Refused.{IsBadHeader, IsOtherSeed}
use Rattle.mw_journal.specs.Scan.{BadHeaderOf, OtherSeedOf}
use Rattle.mw_journal.proofs.Told.{on_ok_one, if_err, judged}
use Rattle.mw_journal.proofs.Lifts.{gives_front, header_there, header_bad, header_other}
use Rattle.mw_journal.proofs.scan.read_header.Given
use Rattle.mw_journal.proofs.scan.read_header.Goals as goal

module _ (g : Given.Over) (c : goal.After-judge_header g) where
  front : (f : List ℕ) → g.D.Disk.told c.args.disk.now ≡ Some f → c.split_at.result.0.now ≡ take 40 f
  front f told = c.split_at.ensures.front
      ∙ gives_front (g.D.Disk.told c.args.disk.now) f c.read.new.into 0 c.in-Ok.count told c.in-Ok.ensures.bytes
      ∙ ap (λ n. take n f) (let forty : length c.read.new.into ≡ 40 = omega (arith, c.read.auto.into) in forty)

pub returns-in-Ok-clause-ok : goal.returns-in-Ok-clause-ok
returns-in-Ok-clause-ok g c = on_ok_one c.judge_header.result c.judge_header.ensures.ok
    (λ right f told. header_there f c.split_at.result.0.now c.args.digest.now (front g c f told) right (omega (arith, c.told-digest)))

pub returns-in-Ok-clause-refused : goal.returns-in-Ok-clause-refused
returns-in-Ok-clause-refused g c =
    let told = g.D.Disk.told c.args.disk.now in
    let head = c.split_at.result.0.now in
    if_err _ _ c.judge_header.result c.judge_header.ensures.refused
    (λ e refuses. judged (IsBadHeader head) (BadHeaderOf told) (IsOtherSeed head c.args.digest.now) (OtherSeedOf told c.args.digest.now)
    (g.D.Disk.faults c.args.disk.now) (g.D.Disk.faults c.read.new.self) e refuses
    (λ at bad f is. header_bad f head c.args.digest.now (front g c f is) at bad)
    (λ found other f is. header_other f head c.args.digest.now (front g c f is) found other))
