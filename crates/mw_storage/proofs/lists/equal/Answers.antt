use Rattle.mw_json.specs.View.{view}
use Rattle.mw_storage.proofs.Equal.{test_is}
use Rattle.mw_storage.proofs.lists.equal.Goals as goal

pub returns : goal.returns
returns c = test_is c.same.result (view c.args.left.now) (view c.args.right.now) c.same.ensures
