-- What the packets of clients keep.
use Rattle.std.specs.Prelude.{ℕ, ℤ, pos, ◌==◌, ◌≤◌, ◌||◌, List, [], ◌∷◌, All, Bool, Option, IfSome, IsTrue, codes}
use Rattle.mw_model.specs.Json.{Json, Members, IsInRange, IsWritable, MembersAreWritable, depth, members_depth}
use Rattle.mw_model.specs.Passed.{AreFurther}
use Rattle.mw_protocol.specs.Connecting.{is_mask}
use Rattle.mw_protocol.specs.Packets.{Bounce, Connect, UpdateHint, Version}
use Rattle.mw_json.specs.Valid.{IsValid, MembersAreValid}

-- unspecified, no priority, avoid, priority
abbrev pub is_hint_status : ℕ → Bool
is_hint_status status = (status == 0) || (status == 10) || (status == 20) || (status == 30)

-- unknown, connected, ready, playing, goal
abbrev pub is_client_status : ℕ → Bool
is_client_status status =
    (status == 0) || (status == 5) || (status == 10) || (status == 20) || (status == 30)

-- the mask, where there is one, is a mask
abbrev pub HasMask : Option ℕ → Type 0
HasMask mask = IfSome mask (λ m. IsTrue (is_mask (pos m)))

abbrev pub HasHintStatus : Option ℕ → Type 0
HasHintStatus status = IfSome status (λ s. IsTrue (is_hint_status s))

-- each number is one of a reading's
pub record IsVersion (version : Version) : Type 0 where
  pub major : IsInRange version.major
  pub minor : IsInRange version.minor
  pub build : IsInRange version.build

pub record IsConnect (connect : Connect) : Type 0 where
  pub version : IsVersion connect.version
  pub items_handling : IfSome connect.items_handling IsInRange

-- its numbers are a reading's, and the status is a hint's
pub record IsUpdateHint (update : UpdateHint) : Type 0 where
  pub player : IsInRange update.player
  pub location : IsInRange update.location
  pub status : HasHintStatus update.status

-- what stands at locations is asked for, and whether hints are made: 0, 1 or 2
pub record LocationScouts : Type 0 where
  pub locations : List ℤ
  pub create_as_hint : ℕ

pub record IsScouts (scouts : LocationScouts) : Type 0 where
  pub locations : All IsInRange scouts.locations
  pub create_as_hint : scouts.create_as_hint ≤ 2

-- ---- members that a packet has of its own

abbrev pub bounce_names : List (List ℕ)
bounce_names = codes "cmd" ∷ codes "games" ∷ codes "tags" ∷ codes "slots" ∷ []

abbrev pub get_names : List (List ℕ)
get_names = codes "cmd" ∷ codes "keys" ∷ []

-- the keys that are asked for, and what comes back with their values
pub record Get : Type 0 where
  pub keys : List (List ℕ)
  pub further : Members

-- its slots are in range, and its further members pass as they stand
pub record IsBounce (bounce : Bounce) : Type 0 where
  pub slots : IfSome bounce.slots (All IsInRange)
  pub further : AreFurther bounce_names bounce.further

abbrev pub IsGet : Get → Type 0
IsGet get = AreFurther get_names get.further

-- ---- what is read

-- it stands in a text's kept reading, at most so deep
pub record IsRead (most : ℕ) (j : Json) : Type 0 where
  pub valid : IsValid j
  pub writable : IsWritable j
  pub shallow : depth j ≤ most

pub record AreRead (most : ℕ) (ms : Members) : Type 0 where
  pub valid : MembersAreValid ms
  pub writable : MembersAreWritable ms
  pub shallow : members_depth ms ≤ most
