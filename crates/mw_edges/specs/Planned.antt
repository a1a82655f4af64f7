-- What a reader or a writer whose calls go as planned shows.
use Rattle.mw_edges.specs.declared.planned.Planned.{Planned}

-- the one within
abbrev pub planned_of : {T : Type 0} → Planned T → T
planned_of p = p.inner
