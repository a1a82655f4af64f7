use Rattle.std.proofs.Common.{rules}
use Rattle.std.proofs.lemmas.Fn.{always_returns_same}
use Rattle.mw_seeds.specs.Agreeing.{location_cmp}
use Rattle.mw_seeds.proofs.Apart.{search_found, search_none}
use Rattle.mw_seeds.proofs.file_puts.find_held.Goals as goal

pub returns-in-Ok : goal.returns-in-Ok
returns-in-Ok c =
    let a = c.args in
    search_found a.held.now c.in-Ok.index c.index-held-index.result a.slot a.location c.requires c.in-Ok.ensures.bound c.index-held-index.is
    (c.in-Ok.ensures.position (λ h. location_cmp h.slot h.location a.slot a.location) (always_returns_same _ _ _ (λ x r f called. (search rules, search rules))))

pub returns-in-Err : goal.returns-in-Err
returns-in-Err c =
    let a = c.args in
    search_none a.held.now c.in-Err.field-0 a.slot a.location c.requires
    (c.in-Err.ensures.position (λ h. location_cmp h.slot h.location a.slot a.location) (always_returns_same _ _ _ (λ x r f called. (search rules, search rules))))
