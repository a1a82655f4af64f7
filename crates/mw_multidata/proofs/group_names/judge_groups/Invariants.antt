use Rattle.std.proofs.Common.{◌≡◌, take, drop, []}
use Rattle.mw_multidata.specs.Names.{groups_named}
use Rattle.mw_json.proofs.Fronts.{with_front}
use Rattle.mw_multidata.proofs.group_names.judge_groups.Given as goal

abbrev pub invariant-loop-i : goal.invariant-loop-i
invariant-loop-i l = with_front l.grouped (groups_named l.catalogs l.shape (take l.i l.groups) l.i (drop l.i l.groups)) ≡ groups_named l.catalogs l.shape [] 0 l.groups
