use Rattle.mw_json.proofs.Again.{reads_back}
use Rattle.mw_json.proofs.KeptAgain.{keeps_back}
use Rattle.mw_records.proofs.decoding.plain_values_stay.Goals as goal

pub returns : goal.returns
returns c = λ value h plain. (reads_back value h.writable h.ordered plain h.shallow, keeps_back value h.writable h.ordered h.shallow)
