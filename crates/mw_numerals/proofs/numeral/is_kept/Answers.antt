use Rattle.std.proofs.Common.{◌∙◌, sym}
use Rattle.std.proofs.lemmas.Bool.{false≢true}
use Rattle.json.specs.Print.{IsNumber}
use Rattle.mw_numerals.proofs.Numerals.{not_kept}
use Rattle.mw_numerals.proofs.numeral.is_kept.Goals as goal

pub returns-else-is_number : goal.returns-else-is_number
returns-else-is_number c =
    let never : IsNumber c.args.text.now → ⊥ = λ n. false≢true (sym c.if-is_number.false ∙ c.is_number.ensures.1 n) in
    c.if-is_number.false ∙ sym (not_kept c.args.text.now never)
