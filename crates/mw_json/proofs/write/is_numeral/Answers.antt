use Rattle.std.proofs.Common.{sym, ◌∙◌}
use Rattle.mw_json.proofs.KeptAgain.{is_kept_one, numeral_is}
use Rattle.mw_json.proofs.write.is_numeral.Goals as goal

pub returns : goal.returns
returns c =
    let told = c.is_kept.ensures in
    (λ h. numeral_is c.args.text.now (sym told ∙ h), λ h. told ∙ is_kept_one c.args.text.now h)
