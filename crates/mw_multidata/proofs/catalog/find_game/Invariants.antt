use Rattle.std.proofs.Common.{◌≡◌, drop}
use Rattle.mw_multidata.specs.Names.{find_game}
use Rattle.mw_multidata.proofs.catalog.find_game.Given as goal

-- it is the first of those that are left
abbrev pub invariant-loop-catalog : goal.invariant-loop-catalog
invariant-loop-catalog l = find_game l.catalogs l.name ≡ find_game (drop l.catalog-index l.catalogs) l.name
