use Rattle.std.proofs.Common.{◌≡◌, ◌≤◌, slice_index_or, ap, ◌∙◌, arith}
use Rattle.mw_checks.proofs.Counting.{many_owned}
use Rattle.mw_checks.proofs.places.Places.size.Goals as goal

pub returns : goal.returns
returns c =
    let slot = c.args.slot in
    let at : c.from.result ≡ slot = c.from.ensures ∙ c.get.ensures.value in
    let few : slot ≤ 1024 = omega (arith, c.get.ensures.value, c.get.ensures.range) in
    ap (λ n. slice_index_or c.sizes.result.now n 0) at ∙ c.sizes.ensures.counts slot few ∙ many_owned slot c.args.self.now.locations
