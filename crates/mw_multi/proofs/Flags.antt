-- Where no event stands, place by place.
use Rattle.std.proofs.Common.{◌≡◌, ℕ, zero, suc, ◌+◌, ◌-◌, ◌<◌, Bool, true, List, [], ◌∷◌, ◌++◌, length, get_or, map, replicate, take, refl, sym, ap, subst, ◌∙◌, inl, inr, arith}
use Rattle.std.specs.Prelude.{filter, nat_lt, option_map, slice_get}
use Rattle.std.proofs.lemmas.Bool.{cases_Bool}
use Rattle.std.proofs.lemmas.List.{append_assoc, get_or_read, get_or_append_left, get_or-append_right, get_or-replicate, length-append, length-map, length-replicate}
use Rattle.std.proofs.lemmas.List.Concat.{flat_map-cons}
use Rattle.std.proofs.lemmas.List.Elements.{filter-append}
use Rattle.std.proofs.lemmas.List.Sums.{sum_by-cons}
use Rattle.mw_multi.specs.World.{Location, place_count}
use Rattle.mw_multi.specs.Joint.{Slot, Joint, place_total, slot_places}
use Rattle.mw_multi.specs.Placement.{Put, PutKept, IsPlacement, site_of, site_in, site_from}
use Rattle.mw_multi.specs.Events.{has_no_event, is_at_no_event, lacks_event, slot_flags, event_free, put_where}
use Rattle.mw_multi.proofs.Standing.{nat_lt_true, nat_lt_false, next_put, site_within}

flag_of_location : (number : ℕ) (ls : List Location) (k : ℕ) → get_or (map lacks_event ls) k true ≡ has_no_event (option_map (site_of number) (slice_get ls k))
flag_of_location number [] k = refl
flag_of_location number (l ∷ ls) zero = refl
flag_of_location number (l ∷ ls) (suc k) = flag_of_location number ls k

flag_in : (number : ℕ) (s : Slot) (p : ℕ) → get_or (slot_flags s) p true ≡ has_no_event (site_in number s.world p)
flag_in number s p = elim (cases_Bool (nat_lt p (length s.world.regions))) [
  | inl region ↦
      let h = nat_lt_true p (length s.world.regions) region in
      rw region (get_or_append_left (replicate (length s.world.regions) true) (map lacks_event s.world.locations) true p (omega (arith, length-replicate (length s.world.regions) true)) ∙ get_or-replicate (length s.world.regions) p true true h)
  | inr location ↦
      let h = nat_lt_false p (length s.world.regions) location in
      rw location (get_or-append_right (replicate (length s.world.regions) true) (map lacks_event s.world.locations) (length s.world.regions) p true (length-replicate (length s.world.regions) true) h ∙ flag_of_location number s.world.locations (p - length s.world.regions))
]

slot_flags-length : (s : Slot) → length (slot_flags s) ≡ slot_places s
slot_flags-length s = omega (arith, length-append (replicate (length s.world.regions) true) (map lacks_event s.world.locations), length-replicate (length s.world.regions) true, length-map s.world.locations lacks_event)

-- there is a flag for each place
pub event_free-length : (slots : List Slot) → length (event_free slots) ≡ place_total slots
event_free-length [] = refl
event_free-length (s ∷ slots) = omega (arith, ap length (flat_map-cons slot_flags s slots), length-append (slot_flags s) (event_free slots), slot_flags-length s, event_free-length slots, sum_by-cons slot_places s slots)

-- the flag of a place says whether the location there has no event
pub event_free-at : (number : ℕ) (slots : List Slot) (p : ℕ) → get_or (event_free slots) p true ≡ has_no_event (site_from number slots p)
event_free-at number [] p = refl
event_free-at number (s ∷ slots) p =
    ap (λ flags. get_or flags p true) (flat_map-cons slot_flags s slots) ∙ elim (cases_Bool (nat_lt p (place_count s.world))) [
      | inl here ↦
          let h = nat_lt_true p (place_count s.world) here in
          rw here (get_or_append_left (slot_flags s) (event_free slots) true p (omega (arith, slot_flags-length s)) ∙ flag_in number s p)
      | inr later ↦
          let h = nat_lt_false p (place_count s.world) later in
          rw later (get_or-append_right (slot_flags s) (event_free slots) (place_count s.world) p true (slot_flags-length s) h ∙ event_free-at (number + 1) slots (p - place_count s.world))
    ]

-- one put more, where no event stands at its place
pub free_puts_more : (slots : List Slot) (front puts : List Put) (put : Put) (free : Bool) → free ≡ is_at_no_event slots put
    → front ++ filter (is_at_no_event slots) (puts ++ put ∷ []) ≡ (front ++ filter (is_at_no_event slots) puts) ++ put_where free put
free_puts_more slots front puts put free is =
    ap (λ ps. front ++ ps) (filter-append (is_at_no_event slots) puts (put ∷ []))
    ∙ sym (append_assoc front (filter (is_at_no_event slots) puts) (filter (is_at_no_event slots) (put ∷ [])))
    ∙ ap (λ b. (front ++ filter (is_at_no_event slots) puts) ++ put_where b put) (sym is)

-- ---- the puts of a placement

module _ (joint : Joint) (puts listed : List Put) (i : ℕ) (p : Put) (placement : IsPlacement joint puts) (same : listed ≡ puts) (h : i < length listed) (is : p ≡ get_or listed i p) where
  pub put_kept : PutKept joint p
  put_kept = subst (PutKept joint) (sym (is ∙ ap (λ ps. get_or ps i p) same)) (placement.each i p (subst (λ ps. i < length ps) same h))

  -- there is a flag for its place
  pub put_within : p.place < length (event_free joint.slots)
  put_within = omega (arith, site_within 1 joint.slots p.place put_kept.place, event_free-length joint.slots)

  -- what its flag says
  pub put_flag : (flags : List Bool) (place : ℕ) (free : Bool) → flags ≡ event_free joint.slots → place ≡ p.place → free ≡ get_or flags place free → free ≡ is_at_no_event joint.slots p
  put_flag flags place free flags_are at read =
      let read_there : free ≡ get_or (event_free joint.slots) p.place free = read ∙ ap (λ fs. get_or fs place free) flags_are ∙ ap (λ q. get_or (event_free joint.slots) q free) at in
      get_or_read (event_free joint.slots) p.place free put_within read_there true ∙ event_free-at 1 joint.slots p.place

  -- the next put, where no event stands at its place
  pub next_free_put : (front : List Put) (free : Bool) → free ≡ is_at_no_event joint.slots p
      → front ++ filter (is_at_no_event joint.slots) (take (i + 1) puts) ≡ (front ++ filter (is_at_no_event joint.slots) (take i puts)) ++ put_where free p
  next_free_put front free flag =
      ap (λ ps. front ++ filter (is_at_no_event joint.slots) ps) (next_put listed puts i p same h is)
      ∙ free_puts_more joint.slots front (take i puts) p free flag
