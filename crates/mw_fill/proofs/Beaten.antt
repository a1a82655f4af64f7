-- A placement that is generated can be beaten.
use Rattle.std.proofs.Common.{◌≡◌, ℕ, suc, ◌+◌, ◌<◌, Bool, true, false, cond, List, [], ◌∷◌, ◌++◌, None, All, get_or, refl, sym, ap, subst, ◌∙◌, inl, inr, arith, append-nil}
use Rattle.std.specs.Prelude.{filter, flat_map}
use Rattle.std.proofs.lemmas.Bool.{cond-true}
use Rattle.std.proofs.lemmas.Grind.{flat_map-append}
use Rattle.std.proofs.lemmas.List.Elements.{All-map, filter-append}
use Rattle.mw_multi.specs.Joint.{Joint, IsJoint, place_total}
use Rattle.mw_multi.specs.Bags.{start_count, everything}
use Rattle.mw_multi.specs.Steps.{steps_of}
use Rattle.mw_multi.specs.Placement.{Put, IsPlaced, put_numbers, stands_at, standing, site_at, what_stands}
use Rattle.mw_multi.specs.Events.{events_of, has_no_event, is_at_no_event, with_events}
use Rattle.mw_reach.specs.Reach.{Placed, found, bag_with, Closed}
use Rattle.mw_reach.specs.Required.{IsBeatable, first_lack}
use Rattle.mw_reach.proofs.Alike.{least_alike, lack_alike}
use Rattle.mw_reach.proofs.Requiring.{required_more, required_of_none}
use Rattle.mw_reach.proofs.SameLeast.{Closed-less}
use Rattle.mw_reach.proofs.Walks.{bag_more}
use Rattle.mw_fill.specs.declared.group.Group.TheVariants.{Asked, Helping, Filling}
use Rattle.mw_fill.specs.Draws.{start_of, words_of}
use Rattle.mw_fill.specs.Copies.{copies_of}
use Rattle.mw_fill.specs.Openings.{Opening, openings_of, regular, all_kinds}
use Rattle.mw_fill.specs.Fill.{Outcome, filled, stuck, in_hand, FillRun, placed_anywhere}
use Rattle.mw_fill.specs.Try.{Lists, stock_of, lists_of, openings_begin, helping_begin, filling_begin, and_then, the_rest, end_put, placement_of, IsFilled}
use Rattle.mw_fill.specs.Generated.{IsLacking}
use Rattle.mw_fill.proofs.Everything.{hands_alike}
use Rattle.mw_fill.proofs.Shuffling.{shuffled_all}
use Rattle.mw_fill.proofs.Permuting.{words_small, shuffled_count}
use Rattle.mw_fill.proofs.Trying.{regular_all, all_kinds_all}
use Rattle.mw_fill.proofs.Locations.{openings_kept}
use Rattle.mw_fill.proofs.Ascending.{end_place, slots_rise}
use Rattle.mw_fill.proofs.Keeping.{found_same, as_good}
use Rattle.mw_fill.proofs.Tidy.{IsTidy, IsIdle, numbers_held, is_opening, tidy_nothing, tidy_run, tidy_anywhere, placement_stands}
use Rattle.mw_fill.proofs.Making.{helping_idle, filling_idle, fillers_idle, own_openings}

-- ---- what stands where

standing_on : (joint : Joint) (xs ys : List Put) (place : ℕ) → standing joint (xs ++ ys) place ≡ standing joint xs place ++ standing joint ys place
standing_on joint xs ys place = ap (flat_map (put_numbers joint)) (filter-append (stands_at place) xs ys) ∙ flat_map-append (put_numbers joint) (filter (stands_at place) xs) (filter (stands_at place) ys)

all_pass : {X : Type 0} (p : X → Bool) (xs : List X) → All (λ x. p x ≡ true) xs → filter p xs ≡ xs
all_pass p [] h = refl
all_pass p (x ∷ xs) h = cond-true (p x) (x ∷ filter p xs) (filter p xs) (h 0 x (omega arith)) ∙ ap (λ rest. x ∷ rest) (all_pass p xs (λ i d l. h (suc i) d (omega arith)))

-- no event stands at the placement's locations
no_events : (joint : Joint) → IsJoint joint → (puts : List Put) → filter (is_at_no_event joint.slots) (placement_of joint puts) ≡ placement_of joint puts
no_events joint kept puts =
    all_pass (is_at_no_event joint.slots) (placement_of joint puts)
    (All-map (λ put. is_at_no_event joint.slots put ≡ true) (end_put puts) (openings_of joint)
    (λ i d l. ap (λ p. has_no_event (site_at joint.slots p)) (end_place puts (get_or (openings_of joint) i d)) ∙ (openings_kept joint kept i d l).no_event))

nothing_else : (joint : Joint) (whole : List Opening) (puts : List Put) (place : ℕ) (b : Bool) → is_opening whole place ≡ b → IsTidy joint whole puts
    → cond b (numbers_held joint (what_stands puts place)) [] ≡ numbers_held joint (what_stands puts place)
nothing_else joint whole puts place true e tidy = refl
nothing_else joint whole puts place false e tidy = sym (ap (numbers_held joint) (tidy.elsewhere place e))

-- where the copies that rules ask for were put first, and others that no rule asks for
pub stands_alike : (joint : Joint) → IsJoint joint → (first puts : List Put) → IsTidy joint (openings_of joint) puts → ((place : ℕ) → standing joint puts place ≡ standing joint first place)
    → (place : ℕ) → standing joint (with_events joint (placement_of joint puts)) place ≡ standing joint (events_of joint ++ first) place
stands_alike joint kept first puts tidy same place =
    let slots = joint.slots in
    let openings = openings_of joint in
    standing_on joint (events_of joint) (filter (is_at_no_event slots) (placement_of joint puts)) place
    ∙ ap (λ ps. standing joint (events_of joint) place ++ standing joint ps place) (no_events joint kept puts)
    ∙ ap (λ ns. standing joint (events_of joint) place ++ ns)
    (placement_stands joint puts openings 0 (0 + place_total slots) place (slots_rise 1 0 0 slots kept.numbered) (fillers_idle joint kept)
    ∙ nothing_else joint openings puts place (is_opening openings place) refl tidy ∙ sym (tidy.alone place) ∙ same place)
    ∙ sym (standing_on joint (events_of joint) first place)

-- ---- a try that gives a placement

pub record Parts (lists : Lists) (joint : Joint) (puts : List Put) : Type 0 where
  pub first : List Put
  pub run : FillRun joint (regular lists.openings) lists.asked [] (filled first)
  pub second : List Put
  pub helping : placed_anywhere (regular lists.openings) lists.helping first ≡ filled second
  pub filling : placed_anywhere (all_kinds lists.openings) lists.filling second ≡ filled puts

rest_parts : (o : Outcome) (next : List Put → Outcome) (puts : List Put) → and_then o next ≡ filled puts → (middle : List Put) × (o ≡ filled middle) × (next middle ≡ filled puts)
rest_parts (filled middle) next puts e = (middle, refl, e)
rest_parts (stuck slot item) next puts e = let never : ⊥ = cc in absurd never

pub parts_of : (joint : Joint) (lists : Lists) (first : Outcome) (puts : List Put) → FillRun joint (regular lists.openings) lists.asked [] first → filled puts ≡ and_then first (the_rest lists) → Parts lists joint puts
parts_of joint lists first puts run e =
    let one = rest_parts first (the_rest lists) puts (sym e) in
    let two = rest_parts (placed_anywhere (regular lists.openings) lists.helping one.0) (placed_anywhere (all_kinds lists.openings) lists.filling) puts one.2 in
    record {
      first = one.0;
      run = subst (λ o. FillRun joint (regular lists.openings) lists.asked [] o) one.1 run;
      second = two.0;
      helping = two.1;
      filling = two.2;
    }

-- ---- the law

module _ (joint : Joint) (kept : IsJoint joint) (seed stream : ℕ) (puts : List Put) (parts : Parts (lists_of joint seed stream) joint puts) where
  abbrev words : ℕ → ℕ
  words = words_of (start_of seed stream)

  abbrev lists : Lists
  lists = lists_of joint seed stream

  abbrev whole : List Opening
  whole = openings_of joint

  openings_are : (P : Opening → Type 0) → All P whole → All P lists.openings
  openings_are P h = shuffled_all P words (openings_begin (stock_of joint)) whole h

  first_tidy : IsTidy joint whole parts.first
  first_tidy =
      tidy_run joint whole (regular lists.openings) lists.asked [] parts.first (regular_all (λ s. is_opening whole s.place ≡ true) lists.openings (openings_are (λ s. is_opening whole s.place ≡ true) (own_openings whole)))
      (tidy_nothing joint whole) parts.run

  pub alike : (place : ℕ) → standing joint (with_events joint (placement_of joint puts)) place ≡ standing joint (events_of joint ++ parts.first) place
  alike =
      let there = openings_are (λ s. is_opening whole s.place ≡ true) (own_openings whole) in
      let two =
      tidy_anywhere joint whole (regular lists.openings) lists.helping parts.first parts.second (regular_all (λ s. is_opening whole s.place ≡ true) lists.openings there)
      (shuffled_all (IsIdle joint) words (helping_begin (stock_of joint)) (copies_of Helping joint) (helping_idle joint kept)) first_tidy parts.helping in
      let three =
      tidy_anywhere joint whole (all_kinds lists.openings) lists.filling parts.second puts (all_kinds_all (λ s. is_opening whole s.place ≡ true) lists.openings there)
      (shuffled_all (IsIdle joint) words (filling_begin (stock_of joint)) (copies_of Filling joint) (filling_idle joint kept)) two.tidy parts.filling in
      stands_alike joint kept parts.first puts three.tidy (λ place. three.same place ∙ two.same place)

  -- what is found with everything in hand is found with the copies that rules ask for
  module _ (lacking : IsLacking joint None) (table : Placed) (placed : IsPlaced joint (with_events joint (placement_of joint puts)) table) where
    pub can_be_beaten : IsBeatable joint table
    can_be_beaten = λ u closed.
        let steps = steps_of joint in
        let start = start_count joint.slots in
        let all = in_hand joint (copies_of Asked joint) in
        let before = lacking.0 in
        let w = lacking.1 in
        let same_hands = hands_alike joint kept in
        let least = least_alike joint kept (everything joint) all same_hands before w lacking.3 in
        let none : first_lack joint (bag_with all before w) w ≡ None = sym (lack_alike joint kept (everything joint) all same_hands before w) ∙ sym lacking.4 in
        let inside : All (λ s. s.place < place_total joint.slots) (regular lists.openings) =
        regular_all (λ s. s.place < place_total joint.slots) lists.openings (openings_are (λ s. s.place < place_total joint.slots) (λ i d l. (openings_kept joint kept i d l).place)) in
        let good =
        as_good joint (regular lists.openings) lists.asked [] parts.first before inside (subst (λ ps. IsPlaced joint ps before) (sym (append-nil (events_of joint))) lacking.2) parts.run in
        let lies : (j : ℕ) → found table u j ≡ found good.end u j = λ j. found_same 0 table good.end u j (placed.size ∙ sym good.placed.size) (λ p. placed.entries p ∙ alike p ∙ sym (good.placed.entries p)) in
        let at_end : Closed steps start good.end u = Closed-less steps start start good.end table u (λ j. omega (arith, lies j)) closed in
        let as_many : (j : ℕ) → in_hand joint lists.asked j ≡ all j = λ j. ap (λ n. start j + n) (shuffled_count joint words (words_small (start_of seed stream)) 0 (copies_of Asked joint) j) in
        elim (good.good u at_end) [
          | inl in_hands ↦
              let with_all : Closed steps all before u = Closed-less steps all (in_hand joint lists.asked) before before u (λ j. omega (arith, as_many j)) in_hands.0 in
              let part = least.least u with_all in
              let more = bag_more all before w u part in
              required_more joint (bag_with all before w) (bag_with start table u) w u (λ j. omega (arith, more j, as_many j, in_hands.1 j, lies j)) part (required_of_none joint (bag_with all before w) w none)
          | inr required ↦ required_more joint (bag_with start good.end u) (bag_with start table u) u u (λ j. omega (arith, lies j)) (λ p h. h) required
        ]

-- a placement that a try gives, where nothing is lacking with everything in hand
pub filled_beatable : (joint : Joint) → IsJoint joint → (seed stream : ℕ) (placement : List Put) → IsLacking joint None → IsFilled joint seed stream placement
    → (table : Placed) → IsPlaced joint (with_events joint placement) table → IsBeatable joint table
filled_beatable joint kept seed stream placement lacking found table placed =
    let parts = parts_of joint (lists_of joint seed stream) found.1.0 found.0 found.1.1 found.1.2 in
    can_be_beaten joint kept seed stream found.0 parts lacking table (subst (λ ps. IsPlaced joint (with_events joint ps) table) found.2 placed)
