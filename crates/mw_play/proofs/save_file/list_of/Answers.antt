use Rattle.std.proofs.Common.{ap}
use Rattle.std.specs.Prelude.{Err}
use Rattle.mw_client.specs.declared.error.SavedError.{SavedError}
use Rattle.mw_play.proofs.save_file.list_of.Goals as goal

pub returns-in-Err-BadBody-clause-refused : goal.returns-in-Err-BadBody-clause-refused
returns-in-Err-BadBody-clause-refused c = λ list is. c.in-Err-BadBody.ensures.bad (ap (λ (e : SavedError). Err e) c.in-Err-BadBody.field-0-is) list is
