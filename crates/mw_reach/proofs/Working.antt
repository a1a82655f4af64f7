-- The worklist, place by place.
use Rattle.std.proofs.Common.{◌≡◌, ◌≢◌, ℕ, zero, suc, ◌+◌, ◌<◌, ◌≤◌, Bool, true, false, not, ◌&&◌, cond, List, [], ◌∷◌, ◌⊎◌, Option, Some, None, eqb, length, get_or, set, replicate, take, refl, sym, ap, ap₂, ◌∙◌, inl, inr, arith, get_or-set_same, get_or-set_other}
use Rattle.std.proofs.lemmas.Bool.{false≢true, true≢false, cases_Bool, cases_eq, cases_lt, or_cases, and_from, and_left, eqb-true, eqb-false}
use Rattle.std.proofs.lemmas.List.{get_or_past, take_more}
use Rattle.std.proofs.lemmas.List.Folds.{list_any-append, sum_by-replicate}
use Rattle.mw_rules.specs.Holds.{Bag, Places, bag_of, places_of, holds}
use Rattle.mw_rules.specs.Laws.{IsPartOf}
use Rattle.mw_rules.specs.Names.{is_among}
use Rattle.mw_rules.proofs.Naming.{hangs_on_names}
use Rattle.mw_multi.specs.Steps.{Step}
use Rattle.mw_reach.specs.Reach.{Placed, times_in, bag_with, starts_in, is_open, Closed, IsLeast}
use Rattle.mw_reach.specs.Bound.{sum_at, is_at}
use Rattle.mw_reach.specs.Counts.{IsTally, CountsFit, missing}
use Rattle.mw_multi.specs.Placement.{numbers_at}
use Rattle.mw_reach.specs.Tables.{no_step, IsWatched, step_at}
use Rattle.mw_reach.specs.Split.{IsLeaf, HasTaken}
use Rattle.mw_reach.specs.Worklist.{numbers_of, IsQueued, Wakes, IsGoing, IsWorking, steps_at}
use Rattle.mw_reach.proofs.Among.{not_among_times, among_numbers_of, away_from_place, away_from_item, names_item_shifted, names_place_shifted}
use Rattle.mw_reach.proofs.Found.{Adds, Adds-set, Adds-outside, IsPartOf-Adds, found-Adds}
use Rattle.mw_reach.proofs.Walks.{open_more, bag_more}
use Rattle.mw_reach.proofs.Waking.{Lead-member, Lead-all, missing-fewer}

-- a list that is closed has what each open step leads to
pub Closed-at : (steps : List Step) (base : Bag) (placed : Placed) (w : Places) → Closed steps base placed w → (n : ℕ) → is_open (step_at steps n) (bag_with base placed w) w ≡ true → w (step_at steps n).to ≡ true
Closed-at [] base placed w h n o = absurd (false≢true o)
Closed-at (step ∷ steps) base placed w h zero o = h.0 o
Closed-at (step ∷ steps) base placed w h (suc n) o = Closed-at steps base placed w h.1 n o

pub Closed-from : (steps : List Step) (base : Bag) (placed : Placed) (w : Places) → ((n : ℕ) → is_open (step_at steps n) (bag_with base placed w) w ≡ true → w (step_at steps n).to ≡ true) → Closed steps base placed w
Closed-from [] base placed w h = tt
Closed-from (step ∷ steps) base placed w h = (h 0, Closed-from steps base placed w (λ n. h (suc n)))

-- with one leaf more
pub leaves_more : (steps : List Step) (base : Bag) (placed : Placed) (done : List Bool) (counts : List ℕ) (first before listed : List Bool) (queue : List ℕ) (head len : ℕ) (leaves : List ℕ) (i : ℕ) → i < length leaves
    → IsPartOf (places_of first) (places_of before) → ((t : ℕ) → is_among (take i leaves) t ≡ true → places_of before t ≡ true)
    → HasTaken steps base placed done counts before listed queue head len (get_or leaves i 0 ∷ []) → HasTaken steps base placed done counts first listed queue head len (take (i + 1) leaves)
leaves_more steps base placed done counts first before listed queue head len leaves i h front there one = record {
  working = one.working;
  grows = λ q e. one.grows q (front q e);
  there = λ t e. elim (or_cases (is_among (take i leaves) t) (is_among (get_or leaves i 0 ∷ []) t) (sym (ap (λ ns. is_among ns t) (take_more leaves i 0 h) ∙ list_any-append (λ m. eqb m t) (take i leaves) (get_or leaves i 0 ∷ [])) ∙ e)) [
    | inl early ↦ one.grows t (there t early)
    | inr last ↦ one.there t last
  ];
}

-- a list that has a place more has all that it had
listed_more : (listed : List Bool) (p : ℕ) → p < length listed → IsPartOf (places_of listed) (places_of (set listed p true))
listed_more listed p h q e = elim (cases_eq q p) [
  | inl same ↦ ap (places_of (set listed p true)) same ∙ get_or-set_same listed p true false h
  | inr other ↦ get_or-set_other listed p q true false other ∙ e
]

-- what one number has, each number of its list has
only_one : (w : Places) (t p : ℕ) → is_among (p ∷ []) t ≡ true → w p ≡ true → w t ≡ true
only_one w t p e h = elim (or_cases (eqb p t) false e) [
  | inl same ↦ ap w (sym (eqb-true p t same)) ∙ h
  | inr none ↦ absurd (false≢true none)
]

module _ (steps : List Step) (origins : List ℕ) (by_place by_item : List (List ℕ)) (watched : IsWatched steps origins by_place by_item)
    (placed : Placed) (done : List Bool) (counts later_counts : List ℕ) (p : ℕ) (within : p < length done) (new : places_of done p ≡ false)
    (grows : (i : ℕ) → bag_of later_counts i ≡ bag_of counts i + times_in i (get_or placed p [])) where
  abbrev items : List ℕ
  items = get_or placed p []

  adds : Adds p (places_of done) (places_of (set done p true))
  adds = Adds-set done p within new

  starts_same : (from : Option ℕ) → is_at from p ≡ false → starts_in from (places_of (set done p true)) ≡ starts_in from (places_of done)
  starts_same None h = refl
  starts_same (Some q) h = sym (adds.others q (eqb-false q p h))

  -- a step that stands with neither the place nor what lies there answers as before
  pub unmoved : (n : ℕ) → is_among (numbers_at by_place p) n ≡ false → is_among (numbers_of by_item items) n ≡ false
      → is_open (step_at steps n) (bag_of later_counts) (places_of (set done p true)) ≡ is_open (step_at steps n) (bag_of counts) (places_of done)
  unmoved n apart unnamed =
      let step = step_at steps n in
      let away = away_from_place steps origins by_place by_item watched n p apart in
      let starts : starts_in step.from (places_of (set done p true)) ≡ starts_in step.from (places_of done) = starts_same step.from away.0 in
      let rule = hangs_on_names step.rule (λ i. bag_of later_counts (step.first_item + i)) (λ i. bag_of counts (step.first_item + i)) (λ q. places_of (set done p true) (step.first_place + q)) (λ q. places_of done (step.first_place + q))
      (λ i e. elim (cases_Bool (is_among items (step.first_item + i))) [
        | inl here ↦ elim (cases_Bool (is_among (numbers_at by_item (step.first_item + i)) n)) [
          | inl there ↦ absurd (true≢false (sym (among_numbers_of by_item items (step.first_item + i) n here there) ∙ unnamed))
          | inr nowhere ↦ absurd (true≢false (sym (names_item_shifted step i e) ∙ away_from_item steps origins by_place by_item watched n (step.first_item + i) nowhere))
        ]
        | inr other ↦ let none = not_among_times items (step.first_item + i) other in omega (arith, grows (step.first_item + i))
      ])
      (λ q e. elim (cases_eq (step.first_place + q) p) [
        | inl here ↦ absurd (true≢false (sym (rw here at (names_place_shifted step q e)) ∙ away.1))
        | inr other ↦ sym (adds.others (step.first_place + q) other)
      ]) in
      ap₂ ◌&&◌ starts rule

  module _ (base : Bag) (listed : List Bool) (queue : List ℕ) (head len : ℕ) (here : get_or queue head 0 ≡ p) (waits : head < len)
      (before : IsWorking steps base placed done counts listed queue head len)
      (asked : List ℕ) (heard : (n : ℕ) → is_among (numbers_at by_place p) n ≡ true → (is_among asked n ≡ true) ⊎ (places_of listed (step_at steps n).to ≡ true))
      (then_listed : List Bool) (then_queue : List ℕ) (then_len : ℕ) (last : List Bool) (last_queue : List ℕ) (last_len : ℕ)
      (a : Wakes (steps_at steps asked) (bag_of later_counts) (places_of (set done p true)) listed queue len then_listed then_queue then_len)
      (b : Wakes (steps_at steps (numbers_of by_item items)) (bag_of later_counts) (places_of (set done p true)) then_listed then_queue then_len last last_queue last_len)
      (same_length : length last ≡ length listed) where
    p_listed : places_of listed p ≡ true
    p_listed = rw here at (before.entries head waits)

    now_inside : IsPartOf (places_of (set done p true)) (places_of listed)
    now_inside = IsPartOf-Adds adds (places_of listed) before.inside p_listed

    tally_after : IsTally base placed (set done p true) later_counts
    tally_after i = omega (arith, before.tally i, grows i, found-Adds p placed _ _ i adds)

    settled_after : (n : ℕ) → is_open (step_at steps n) (bag_of later_counts) (places_of (set done p true)) ≡ true → places_of last (step_at steps n).to ≡ true
    settled_after n o = elim (cases_Bool (is_among (numbers_at by_place p) n)) [
      | inl at ↦ elim (heard n at) [
        | inl told ↦ b.grows _ (Lead-member (bag_of later_counts) (places_of (set done p true)) (places_of then_listed) steps asked n a.settled told o)
        | inr there ↦ b.grows _ (a.grows _ there)
      ]
      | inr apart ↦ elim (cases_Bool (is_among (numbers_of by_item items) n)) [
        | inl named ↦ Lead-member (bag_of later_counts) (places_of (set done p true)) (places_of last) steps (numbers_of by_item items) n b.settled named o
        | inr unnamed ↦ b.grows _ (a.grows _ (before.settled n (sym (unmoved n apart unnamed) ∙ o)))
      ]
    ]

    sound_after : (v : Places) → Closed steps base placed v → IsPartOf (places_of last) v
    sound_after v c =
        let listed_in = before.sound v c in
        let inside : IsPartOf (places_of (set done p true)) v = λ q e. listed_in q (now_inside q e) in
        let leads : (n : ℕ) → is_open (step_at steps n) (bag_of later_counts) (places_of (set done p true)) ≡ true → v (step_at steps n).to ≡ true =
        λ n o. Closed-at steps base placed v c n (open_more (step_at steps n) (bag_of later_counts) (bag_with base placed v) (places_of (set done p true)) v
        (λ i. omega (arith, tally_after i, bag_more base placed (places_of (set done p true)) v inside i)) inside o) in
        b.sound v (Lead-all (bag_of later_counts) (places_of (set done p true)) v steps (numbers_of by_item items) leads) (a.sound v (Lead-all (bag_of later_counts) (places_of (set done p true)) v steps asked leads) listed_in)

    queued_after : IsQueued (places_of (set done p true)) last last_queue (head + 1) last_len
    queued_after = b.queued (head + 1) (omega (arith, a.longer)) (a.queued (head + 1) (omega arith) (λ q e d.
        let other : q ≢ p = λ same. true≢false (sym (ap (places_of (set done p true)) same ∙ adds.added) ∙ d) in
        let old = before.queued q e (adds.others q other ∙ d) in
        let past : old.0 ≢ head = λ same. other (sym old.3 ∙ ap (λ k. get_or queue k 0) same ∙ here) in
        (old.0, omega (arith, old.1), old.2, old.3)))

    pub visited : IsWorking steps base placed (set done p true) later_counts last last_queue (head + 1) last_len
    visited = record {
      tally = tally_after;
      room = λ i. omega (arith, before.room i, grows i, found-Adds p placed _ _ i (Adds-outside done p within new));
      inside = λ q e. b.grows q (a.grows q (now_inside q e));
      settled = settled_after;
      sound = sound_after;
      queued = queued_after;
      entries = b.entries (a.entries before.entries);
      space = omega (arith, a.room, b.room, before.space);
    }

  -- a leaf, which is done as soon as it is listed
  module _ (base : Bag) (listed : List Bool) (queue : List ℕ) (head len from : ℕ) (early : head ≤ len) (leaf : IsLeaf steps by_place from p) (start : places_of listed from ≡ true)
      (before : IsWorking steps base placed done counts listed queue head len) (fits : p < length listed)
      (last : List Bool) (last_queue : List ℕ) (last_len : ℕ)
      (b : Wakes (steps_at steps (numbers_of by_item items)) (bag_of later_counts) (places_of (set done p true)) (set listed p true) queue len last last_queue last_len)
      (same_length : length last ≡ length listed) where
    told_leaf : places_of (set listed p true) p ≡ true
    told_leaf = get_or-set_same listed p true false fits

    told_other : (q : ℕ) → q ≢ p → places_of (set listed p true) q ≡ places_of listed q
    told_other q other = get_or-set_other listed p q true false other

    told_more : IsPartOf (places_of listed) (places_of (set listed p true))
    told_more = listed_more listed p fits

    leaf_inside : IsPartOf (places_of (set done p true)) (places_of (set listed p true))
    leaf_inside = IsPartOf-Adds adds (places_of (set listed p true)) (λ q e. told_more q (before.inside q e)) told_leaf

    leaf_tally : IsTally base placed (set done p true) later_counts
    leaf_tally i = omega (arith, before.tally i, grows i, found-Adds p placed _ _ i adds)

    leaf_settled : (n : ℕ) → is_open (step_at steps n) (bag_of later_counts) (places_of (set done p true)) ≡ true → places_of last (step_at steps n).to ≡ true
    leaf_settled n o = elim (cases_Bool (is_among (numbers_of by_item items) n)) [
      | inl named ↦ Lead-member (bag_of later_counts) (places_of (set done p true)) (places_of last) steps (numbers_of by_item items) n b.settled named o
      | inr unnamed ↦ b.grows _ (told_more _ (before.settled n (sym (unmoved n (ap (λ ns. is_among ns n) leaf.alone) unnamed) ∙ o)))
    ]

    leaf_in : (v : Places) → Closed steps base placed v → v p ≡ true
    leaf_in v c =
        let step = step_at steps leaf.number in
        let bag = bag_with base placed v in
        let starts : starts_in step.from v ≡ true = ap (λ f. starts_in f v) leaf.from_is ∙ before.sound v c from start in
        let rule : holds step.rule (λ i. bag (step.first_item + i)) (λ q. v (step.first_place + q)) ≡ true = ap (λ r. holds r (λ i. bag (step.first_item + i)) (λ q. v (step.first_place + q))) leaf.rule_is in
        ap v (sym leaf.to_is) ∙ Closed-at steps base placed v c leaf.number (and_from _ _ starts rule)

    leaf_sound : (v : Places) → Closed steps base placed v → IsPartOf (places_of last) v
    leaf_sound v c =
        let told_in : IsPartOf (places_of (set listed p true)) v = λ q e. elim (cases_eq q p) [
          | inl same ↦ ap v same ∙ leaf_in v c
          | inr other ↦ before.sound v c q (sym (told_other q other) ∙ e)
        ] in
        let inside : IsPartOf (places_of (set done p true)) v = λ q e. told_in q (leaf_inside q e) in
        b.sound v (Lead-all (bag_of later_counts) (places_of (set done p true)) v steps (numbers_of by_item items) (λ n o. Closed-at steps base placed v c n (open_more (step_at steps n) (bag_of later_counts) (bag_with base placed v) (places_of (set done p true)) v
        (λ i. omega (arith, leaf_tally i, bag_more base placed (places_of (set done p true)) v inside i)) inside o))) told_in

    leaf_queued : IsQueued (places_of (set done p true)) last last_queue head last_len
    leaf_queued = b.queued head early (λ q e d.
        let other : q ≢ p = λ same. true≢false (sym (ap (places_of (set done p true)) same ∙ adds.added) ∙ d) in
        before.queued q (sym (told_other q other) ∙ e) (adds.others q other ∙ d))

    pub leaf_taken : HasTaken steps base placed (set done p true) later_counts listed last last_queue head last_len (p ∷ [])
    leaf_taken = record {
      working = record {
        tally = leaf_tally;
        room = λ i. omega (arith, before.room i, grows i, found-Adds p placed _ _ i (Adds-outside done p within new));
        inside = λ q e. b.grows q (leaf_inside q e);
        settled = leaf_settled;
        sound = leaf_sound;
        queued = leaf_queued;
        entries = b.entries (λ k h. told_more (get_or queue k 0) (before.entries k h));
        space = omega (arith, b.room, missing-fewer listed p fits, before.space);
      };
      grows = λ q e. b.grows q (told_more q e);
      there = λ t e. b.grows t (only_one (places_of (set listed p true)) t p e told_leaf);
    }

-- what the walk needs is there after a leaf as before it
pub leaf_going : (placed : Placed) (done : List Bool) (counts later_counts : List ℕ) (p : ℕ) → p < length done → places_of done p ≡ false → ((i : ℕ) → bag_of later_counts i ≡ bag_of counts i + times_in i (get_or placed p []))
    → (xs : List Step) (bag : Bag) (v : Places) (listed : List Bool) (queue : List ℕ) (len : ℕ) (last : List Bool) (last_queue : List ℕ) (last_len : ℕ) → p < length listed
    → Wakes xs bag v (set listed p true) queue len last last_queue last_len → length last ≡ length listed
    → IsGoing placed done counts listed queue len → IsGoing placed (set done p true) later_counts last last_queue last_len
leaf_going placed done counts later_counts p within new grows xs bag v listed queue len last last_queue last_len fits b same before = record {
  room = λ i. omega (arith, before.room i, grows i, found-Adds p placed _ _ i (Adds-outside done p within new));
  entries = b.entries (λ k h. listed_more listed p fits (get_or queue k 0) (before.entries k h));
  space = omega (arith, b.room, missing-fewer listed p fits, before.space);
}

-- what the walk needs is there after a place as before it
pub still_going : (placed : Placed) (done : List Bool) (counts later_counts : List ℕ) (p : ℕ) → p < length done → places_of done p ≡ false → ((i : ℕ) → bag_of later_counts i ≡ bag_of counts i + times_in i (get_or placed p []))
    → (xs ys : List Step) (bag : Bag) (v : Places) (listed : List Bool) (queue : List ℕ) (len : ℕ) (then_listed : List Bool) (then_queue : List ℕ) (then_len : ℕ) (last : List Bool) (last_queue : List ℕ) (last_len : ℕ)
    → Wakes xs bag v listed queue len then_listed then_queue then_len → Wakes ys bag v then_listed then_queue then_len last last_queue last_len → length last ≡ length listed
    → IsGoing placed done counts listed queue len → IsGoing placed (set done p true) later_counts last last_queue last_len
still_going placed done counts later_counts p within new grows xs ys bag v listed queue len then_listed then_queue then_len last last_queue last_len a b same before = record {
  room = λ i. omega (arith, before.room i, grows i, found-Adds p placed _ _ i (Adds-outside done p within new));
  entries = b.entries (a.entries before.entries);
  space = omega (arith, a.room, b.room, before.space);
}

pub going : (steps : List Step) (base : Bag) (placed : Placed) (done : List Bool) (counts : List ℕ) (listed : List Bool) (queue : List ℕ) (head len : ℕ) → IsWorking steps base placed done counts listed queue head len → IsGoing placed done counts listed queue len
going steps base placed done counts listed queue head len w = record { room = w.room; entries = w.entries; space = w.space }

-- a place that is done already
pub passed : (steps : List Step) (base : Bag) (placed : Placed) (done : List Bool) (counts : List ℕ) (listed : List Bool) (queue : List ℕ) (head len : ℕ)
    → places_of done (get_or queue head 0) ≡ true → IsWorking steps base placed done counts listed queue head len → IsWorking steps base placed done counts listed queue (head + 1) len
passed steps base placed done counts listed queue head len is before = record {
  tally = before.tally;
  room = before.room;
  inside = before.inside;
  settled = before.settled;
  sound = before.sound;
  queued = λ q e d.
      let old = before.queued q e d in
      let past : old.0 ≢ head = λ same. true≢false (sym is ∙ ap (λ k. places_of done (get_or queue k 0)) (sym same) ∙ ap (places_of done) old.3 ∙ d) in
      (old.0, omega (arith, old.1), old.2, old.3);
  entries = before.entries;
  space = before.space;
}

-- with nothing left in the queue
pub finished : (steps : List Step) (base : Bag) (placed : Placed) (done : List Bool) (counts : List ℕ) (listed : List Bool) (queue : List ℕ) (head len : ℕ)
    → len ≤ head → IsWorking steps base placed done counts listed queue head len → IsLeast steps base placed (places_of done)
finished steps base placed done counts listed queue head len h w =
    let all_done : (p : ℕ) → places_of listed p ≡ true → places_of done p ≡ true = λ p e. elim (cases_Bool (places_of done p)) [
      | inl d ↦ d
      | inr d ↦ let waits = w.queued p e d in absurd (omega (arith, waits.1, waits.2))
    ] in record {
      closed = Closed-from steps base placed (places_of done) (λ n o.
          all_done (step_at steps n).to (w.settled n (open_more (step_at steps n) (bag_with base placed (places_of done)) (bag_of counts) (places_of done) (places_of done) (λ i. omega (arith, w.tally i)) (λ p e. e) o)));
      least = λ v c p e. w.sound v c p (w.inside p e);
    }

from_somewhere : (from : Option ℕ) → (from ≡ None → ⊥) → (done : Places) → ((p : ℕ) → done p ≡ false) → starts_in from done ≡ false
from_somewhere None h done none = absurd (h refl)
from_somewhere (Some p) h done none = none p

-- without a place no step is open but from nowhere
shut_at_first : (steps : List Step) (origins : List ℕ) (by_place by_item : List (List ℕ)) (watched : IsWatched steps origins by_place by_item) (bag : Bag) (done : Places) → ((p : ℕ) → done p ≡ false)
    → (n : ℕ) → is_among origins n ≡ false → is_open (step_at steps n) bag done ≡ false
shut_at_first steps origins by_place by_item watched bag done none n apart = elim (cases_lt n (length steps)) [
  | inl within ↦ let step = step_at steps n in
      and_left (starts_in step.from done) _ (from_somewhere step.from (λ e. true≢false (sym (watched.nowhere n within e) ∙ apart)) done none)
  | inr past ↦ let shut : step_at steps n ≡ no_step = get_or_past steps n no_step past in rw shut refl
]

-- nothing is done yet, and the steps from nowhere were asked
pub begun : (steps : List Step) (origins : List ℕ) (by_place by_item : List (List ℕ)) (watched : IsWatched steps origins by_place by_item)
    (base : Bag) (placed : Placed) (done : List Bool) (counts : List ℕ) (listed : List Bool) (queue : List ℕ) (later : List Bool) (later_queue : List ℕ) (len : ℕ)
    → IsTally base placed done counts → CountsFit placed done counts
    → ((p : ℕ) → places_of done p ≡ false) → ((p : ℕ) → places_of listed p ≡ false) → missing listed ≡ length later
    → Wakes (steps_at steps origins) (bag_of counts) (places_of done) listed queue 0 later later_queue len
    → IsWorking steps base placed done counts later later_queue 0 len
begun steps origins by_place by_item watched base placed done counts listed queue later later_queue len t r none_done none_listed all w = record {
  tally = t;
  room = r;
  inside = λ p e. absurd (true≢false (sym e ∙ none_done p));
  settled = λ n o. elim (cases_Bool (is_among origins n)) [
    | inl at ↦ Lead-member (bag_of counts) (places_of done) (places_of later) steps origins n w.settled at o
    | inr apart ↦ absurd (true≢false (sym o ∙ shut_at_first steps origins by_place by_item watched (bag_of counts) (places_of done) none_done n apart))
  ];
  sound = λ v c.
      let leads : (n : ℕ) → is_open (step_at steps n) (bag_of counts) (places_of done) ≡ true → v (step_at steps n).to ≡ true =
      λ n o. Closed-at steps base placed v c n (open_more (step_at steps n) (bag_of counts) (bag_with base placed v) (places_of done) v
      (λ i. omega (arith, t i, bag_more base placed (places_of done) v (λ p e. absurd (true≢false (sym e ∙ none_done p))) i)) (λ p e. absurd (true≢false (sym e ∙ none_done p))) o) in
      w.sound v (Lead-all (bag_of counts) (places_of done) v steps origins leads) (λ p e. absurd (true≢false (sym e ∙ none_listed p)));
  queued = w.queued 0 (omega arith) (λ p e d. absurd (true≢false (sym e ∙ none_listed p)));
  entries = w.entries (λ k h. absurd (omega arith));
  space = omega (arith, w.room);
}

pub missing-replicate : (n : ℕ) → missing (replicate n false) ≡ n
missing-replicate n = sum_by-replicate (λ b. cond (not b) 1 0) n false ∙ omega arith

pub sum_at-set : (cost : ℕ → ℕ) (p n : ℕ) (ds : List Bool) → n < length ds → get_or ds n false ≡ false → sum_at cost p (set ds n true) ≡ sum_at cost p ds + cost (p + n)
sum_at-set cost p n [] h e = absurd (omega arith)
sum_at-set cost p zero (d ∷ ds) h e = let here : p + 0 ≡ p = omega arith in rw (e, here) (omega arith)
sum_at-set cost p (suc n) (d ∷ ds) h e =
    let at : p + suc n ≡ suc p + n = omega arith in
    rw (at, sum_at-set cost (suc p) n ds (omega arith) e) (omega arith)
