use Rattle.std.proofs.Common.{◌≡◌, ◌++◌, drop}
use Rattle.mw_multi.specs.Links.{links_of, left_by}
use Rattle.mw_multi.proofs.left.Left.share_all.Given as goal

abbrev pub invariant-loop-sharing : goal.invariant-loop-sharing
invariant-loop-sharing l = record {
  links : l.links ++ links_of l.self (drop l.sharing-index l.sharings) ≡ links_of l.fn.self l.sharings;
  left : left_by l.self (drop l.sharing-index l.sharings) ≡ left_by l.fn.self l.sharings;
}
