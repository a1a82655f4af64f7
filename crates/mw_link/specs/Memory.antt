-- What links and gates in memory show.
use Rattle.std.specs.Prelude.{ℕ, Bool, false, List, [], ◌∷◌}
use Rattle.mw_edges.specs.FaultPlan.{FaultPlan}
use Rattle.mw_link.specs.declared.link.Heard.{Heard}
use Rattle.mw_link.specs.declared.link.Heard.TheVariants.{End}
use Rattle.mw_link.specs.Tells.{IsNew}

-- what is to come over a link, what it heard and sent, how often it has failed, when it was
-- accepted, and whether it was shut
pub record Line : Type 0 where
  pub coming : List Heard
  pub heard : List Heard
  pub sent : List (List ℕ)
  pub faults : ℕ
  pub opened : ℕ
  pub shut : Bool

-- a link that has heard and sent nothing
abbrev pub new_line : List Heard → ℕ → Line
new_line coming opened = record {
  coming = coming;
  heard = [];
  sent = [];
  faults = 0;
  opened = opened;
  shut = false;
}

-- what comes next, and what is then to come: the end, once nothing else is
abbrev pub next_of : List Heard → Heard
next_of [] = End
next_of (h ∷ hs) = h

abbrev pub rest_of : List Heard → List Heard
rest_of [] = []
rest_of (h ∷ hs) = hs

-- the links that a gate is to give, how many it has given, whether it has answered that it gives no
-- more, and the addresses at which it was made ready
pub record Gateway (L : Type 0) : Type 0 where
  pub left : List L
  pub given : ℕ
  pub ended : Bool
  pub listened : List (List ℕ)

-- a gate that has given none yet
abbrev pub new_gateway : {L : Type 0} → List L → Gateway L
new_gateway left = record { left = left; given = 0; ended = false; listened = [] }

-- the same, of a gate whose calls fail as planned, and the plan
pub record PlannedGateway (L : Type 0) : Type 0 where
  pub gateway : Gateway L
  pub plan : FaultPlan

-- a link whose calls fail as planned: what else it shows, and the plan
pub record PlannedLine : Type 0 where
  pub line : Line
  pub plan : FaultPlan

module _ {L : Type 0} (heard_by : L → List Heard) (sent_by : L → List (List ℕ)) (faults : L → ℕ)
    (is_shut : L → Bool) where
  -- all of these links are new
  abbrev pub AreNew : List L → Type 0
  AreNew [] = Unit {0}
  AreNew (l ∷ ls) = IsNew heard_by sent_by faults is_shut l × AreNew ls
