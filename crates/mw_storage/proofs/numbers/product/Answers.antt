use Rattle.std.proofs.Common.{◌^◌, arith}
use Rattle.std.proofs.Math.Nat.{mul-le-mul}
use Rattle.std.specs.Int.{w128}
use Rattle.std.proofs.lemmas.Int.{to_z-of_z, fits_signed_mul, unsigned_abs-mul}
use Rattle.mw_storage.proofs.numbers.product.Goals as goal

pub returns-clause-value : goal.returns-clause-value
returns-clause-value c =
    let left = c.ranges.z in
    let right = c.ranges.n in
    let fits = fits_signed_mul w128 c.args.z c.args.n (2 ^ 63) (2 ^ 63) c.requires.left c.requires.right (omega arith) in
    simp to_z-of_z

pub returns-clause-small : goal.returns-clause-small
returns-clause-small c =
    let left = c.ranges.z in
    let right = c.ranges.n in
    let fits = fits_signed_mul w128 c.args.z c.args.n (2 ^ 63) (2 ^ 63) c.requires.left c.requires.right (omega arith) in
    simp (to_z-of_z, unsigned_abs-mul) (mul-le-mul c.requires.left c.requires.right)
