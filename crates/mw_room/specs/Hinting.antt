-- Hints that are told.
use Rattle.std.specs.Prelude.{◌≡◌, ℕ, ℤ, ◌==◌, ◌++◌, ◌∷◌, [], List, Bool, true, Option, Some, None, not, if◌then◌else◌}
use Rattle.mw_model.specs.Seed.{Seed, Held, held_at}
use Rattle.mw_protocol.specs.Checks.{found_item}
use Rattle.mw_protocol.specs.Heard.{Announced, slots_hear}
use Rattle.mw_protocol.specs.HintList.{hint_at}
use Rattle.mw_protocol.specs.Connecting.{Member}
use Rattle.mw_protocol.specs.Hints.{Answer, Wanted, bought_for}
use Rattle.mw_protocol.specs.Prints.{printed, hint_print}
use Rattle.mw_protocol.specs.Records.{Hint}
use Rattle.mw_protocol.specs.Standing.{Standing, is_checked, points}
use Rattle.mw_effects.specs.Parts.{standing_of}
use Rattle.mw_effects.specs.declared.standing.Standing.{Standing as RustStanding}

-- what is told of a hint of a finder's location, where something stands there
abbrev pub told_at : Standing → ℕ → ℕ → ℤ → Option Held → List Announced
told_at now team finder location None = []
told_at now team finder location (Some at) =
    record {
      audience = slots_hear team finder at.receiver;
      packet = printed
          (hint_print (found_item at) at.receiver (is_checked now team finder location));
    } ∷ []

-- a hint that is there is told again or not, one that isn't there is made where the location isn't
-- checked
abbrev pub told_where : Option Hint → Bool → Bool → Bool
told_where None again found = not found
told_where (Some h) again found = again

abbrev pub is_told : Standing → ℕ → ℕ → Bool → ℤ → Bool
is_told now team slot again location =
    told_where (hint_at now.hints team slot location) again (is_checked now team slot location)

abbrev pub told_if : Seed → Standing → ℕ → ℕ → Bool → ℤ → List Announced
told_if seed now team slot again location =
    if is_told now team slot again location
    then told_at now team slot location (held_at seed slot location) else []

-- of the locations of a slot
abbrev pub all_told : Seed → Standing → ℕ → ℕ → Bool → List ℤ → List Announced
all_told seed now team slot again [] = []
all_told seed now team slot again (l ∷ ls) =
    told_if seed now team slot again l ++ all_told seed now team slot again ls

-- with 0 a scouting tells no hints, with 1 those that are there are told again
abbrev pub told_with : ℕ → Seed → Standing → ℕ → ℕ → List ℤ → List Announced
told_with as_hint seed now team slot known =
    if as_hint == 0 then [] else all_told seed now team slot (as_hint == 1) known

-- a payer of a team buys the hint, and there is none at its place
pub record IsBought (now : Standing) (of payer : ℕ) (h : Hint) : Type 0 where
  pub team : h.team ≡ of
  pub buyer : h.buyer ≡ payer
  pub paid : h.bought ≡ true
  pub none : hint_at now.hints h.team h.finder h.location ≡ None

-- what a member is answered that wants a hint
abbrev pub answered_in : RustStanding → Member → Wanted → Answer
answered_in s m wanted =
    bought_for s.log.seed (is_checked (standing_of s))
    (points s.log.seed (standing_of s) m.team m.slot) s.hints.hints m.team m.slot wanted
