use Rattle.std.proofs.Common.{◌≡◌, sym, subst}
use Rattle.std.specs.Prelude.{IfOk, Result, Ok, Err}
use Rattle.mw_model.specs.Json.{Json, IsOrdered, IsWritable}
use Rattle.mw_protocol.specs.Packages.{package_json}
use Rattle.mw_json.specs.View.{view}
use Rattle.mw_json.specs.declared.tree.Tree.{Tree}
use Rattle.mw_multidata.specs.SeedKept.{IsSeed}
use Rattle.mw_datapack.proofs.Packaged.{package_writable, package_ordered}
use Rattle.mw_datapack.proofs.games.package.Goals as goal

holds_of : {E : Type 0} (P : Json → Type 0) (found : Result Tree E) (j : Json) → IfOk found (λ t. view t ≡ j) → P j → IfOk found (λ t. P (view t))
holds_of P (Ok t) j is h = subst P (sym is) h
holds_of P (Err e) j is h = tt

pub returns-clause-writable : goal.returns-clause-writable
returns-clause-writable c =
    let kept : IsSeed c.multidata.result.now = c.multidata.ensures.kept in
    let wanted = c.args.wanted.now in
    holds_of IsWritable c.package_tree.result (package_json c.multidata.result.now wanted) c.package_tree.ensures (package_writable c.multidata.result.now wanted kept)

pub returns-clause-ordered : goal.returns-clause-ordered
returns-clause-ordered c =
    let kept : IsSeed c.multidata.result.now = c.multidata.ensures.kept in
    let wanted = c.args.wanted.now in
    holds_of IsOrdered c.package_tree.result (package_json c.multidata.result.now wanted) c.package_tree.ensures (package_ordered c.multidata.result.now wanted kept)
