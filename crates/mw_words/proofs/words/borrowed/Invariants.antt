use Rattle.std.specs.Prelude.{◌≡◌, take}
use Rattle.clap.specs.Walk.{texts}
use Rattle.mw_words.proofs.words.borrowed.Given as goal

abbrev pub invariant-loop-word : goal.invariant-loop-word
invariant-loop-word l = texts l.borrowed.items ≡ take l.word-index l.words
