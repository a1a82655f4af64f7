use Rattle.std.proofs.Common.{◌≡◌, drop}
use Rattle.mw_protocol.specs.Heard.{share_text}
use Rattle.mw_effects.proofs.bounces.share_text.Given as goal

abbrev pub invariant-loop-text : goal.invariant-loop-text
invariant-loop-text l = share_text l.texts l.others ≡ share_text (drop l.text-index l.texts) l.others
