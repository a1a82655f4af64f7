use Rattle.std.proofs.Common.{ℕ, ℤ, List, sym, subst}
use Rattle.mw_checks.specs.Log.{AreFresh, checks_of}
use Rattle.mw_checks.proofs.News.{are_fresh}
use Rattle.mw_checks.proofs.log.CheckLog.add.Goals as goal

pub add_grown-requires-clause-fresh : goal.add_grown-requires-clause-fresh
add_grown-requires-clause-fresh c =
    subst (λ (ps : List (ℕ × ℤ)). AreFresh c.args.self.now.seed c.args.self.now.checked c.args.team ps) (sym c.as_slice.ensures)
    (are_fresh c.args.self.now.seed (checks_of c.args.team c.args.pairs.now) c.args.self.now.checked c.args.team _ c.in_ok-fresh.ensures)
