use Rattle.mw_json.proofs.KeptAgain.{keeps_back}
use Rattle.mw_json.proofs.write.keeps_back.Goals as goal

pub returns : goal.returns
returns c = keeps_back
