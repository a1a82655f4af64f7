use Rattle.std.proofs.Common.{◌≡◌, ◌++◌, map, take}
use Rattle.mw_seeds.specs.Agreeing.{slot_items}
use Rattle.mw_seeds.specs.FilePuts.{link_items}
use Rattle.mw_seeds.proofs.catalog.catalogs_of.Given as goal

abbrev pub invariant-loop-link : goal.invariant-loop-link
invariant-loop-link l = l.catalogs ≡ map slot_items l.slots ++ map (link_items l.slots) (take l.link-index l.link-items)
