use Rattle.std.proofs.Common.{◌≡◌, drop, map}
use Rattle.mw_multidata.specs.Names.{has_name, group_name}
use Rattle.mw_multidata.proofs.group_names.some_group_has.Given as goal

abbrev pub invariant-loop-group : goal.invariant-loop-group
invariant-loop-group l = has_name (map group_name l.groups) l.name ≡ has_name (map group_name (drop l.group-index l.groups)) l.name
