use Rattle.std.proofs.Common.{◌≡◌, ℕ, List, take}
use Rattle.std.specs.Prelude.{bytes_eq}
use Rattle.std.specs.HashSet as hashed
use Rattle.mw_model.specs.Texts.{has_text}
use Rattle.mw_datapack.proofs.wanted.names_of.Given as goal

abbrev pub invariant-loop-name : goal.invariant-loop-name
invariant-loop-name l = (q : List ℕ) → hashed.contains_by (λ k. bytes_eq q k.now) l.found ≡ has_text (take l.name-index l.names) q
