use Rattle.std.proofs.Common.{◌≡◌, drop}
use Rattle.mw_tables.specs.PlayersOf.{links_named}
use Rattle.mw_tables.proofs.link_names.judge_links.Given as goal

abbrev pub invariant-loop-i : goal.invariant-loop-i
invariant-loop-i l = links_named l.slots l.seen l.i (drop l.i l.links) ≡ links_named l.slots l.initial.seen 0 l.links
