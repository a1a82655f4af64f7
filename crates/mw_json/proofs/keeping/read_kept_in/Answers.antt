use Rattle.std.proofs.Common.{◌∙◌, ap, sym}
use Rattle.mw_json.specs.KeptReading.{kept_reading}
use Rattle.mw_json.specs.View.{view}
use Rattle.mw_json.proofs.KeptGood.{kept_good}
use Rattle.mw_json.proofs.keeping.read_kept_in.Goals as goal

pub returns-clause-valid : goal.returns-clause-valid
returns-clause-valid c =
    let text = c.in-Ok.ensures.cases in
    (kept_good c.args.bytes.now (view c.in_ok-tree.tree) record { utf8 = text.1; is = ap kept_reading (sym text.0) ∙ c.in_ok-tree.ensures.ok }).0

pub returns-clause-writable : goal.returns-clause-writable
returns-clause-writable c =
    let text = c.in-Ok.ensures.cases in
    (kept_good c.args.bytes.now (view c.in_ok-tree.tree) record { utf8 = text.1; is = ap kept_reading (sym text.0) ∙ c.in_ok-tree.ensures.ok }).1
