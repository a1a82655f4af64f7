use Rattle.mw_json.specs.Grammar.{field_at}
use Rattle.mw_json.proofs.fields.field_in.Goals as goal

pub returns : goal.returns
unfolding field_at
returns g c = λ at called same reads. rw (same, c.in_ok-found.ensures) (c.at_name.ensures _ (reads _ _ _ c.read.ensures))
