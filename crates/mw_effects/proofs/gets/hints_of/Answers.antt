use Rattle.mw_json.specs.View.{view}
use Rattle.mw_effects.proofs.Values.{hints_sound}
use Rattle.mw_effects.proofs.gets.hints_of.Goals as goal

pub returns-clause-sound : goal.returns-clause-sound
returns-clause-sound c = hints_sound c.as_slice.result.now (view c.in_ok-tree.tree) c.in_ok-tree.ensures.value c.in_ok-tree.ensures.writable
