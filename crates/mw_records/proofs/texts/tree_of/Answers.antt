use Rattle.std.proofs.Common.{refl}
use Rattle.mw_records.proofs.Values.{no_text, too_deep}
use Rattle.mw_records.proofs.texts.tree_of.Goals as goal

pub returns-in-Err-NoJson-clause-bad : goal.returns-in-Err-NoJson-clause-bad
returns-in-Err-NoJson-clause-bad c =
    let none = rw c.in-Err-NoJson.field-0-is at c.in-Err-NoJson.ensures.no_json in
    λ e. no_text c.args.text.now (none refl)

pub returns-in-Err-TooDeep-clause-bad : goal.returns-in-Err-TooDeep-clause-bad
returns-in-Err-TooDeep-clause-bad c =
    let deep = rw c.in-Err-TooDeep.field-0-is at c.in-Err-TooDeep.ensures.too_deep in
    λ e. too_deep c.args.text.now (deep refl).0 (deep refl).1 (deep refl).2
