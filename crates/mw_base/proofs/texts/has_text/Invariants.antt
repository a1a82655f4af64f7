use Rattle.std.proofs.Common.{◌≡◌, drop}
use Rattle.mw_model.specs.Texts.{has_text}
use Rattle.mw_base.proofs.texts.has_text.Given as goal

abbrev pub invariant-loop-first : goal.invariant-loop-first
invariant-loop-first l = has_text l.texts l.text ≡ has_text (drop l.first-index l.texts) l.text
