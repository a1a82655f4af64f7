-- Steps that are asked, one after another.
use Rattle.std.proofs.Common.{◌≡◌, ◌≢◌, ℕ, ◌+◌, ◌<◌, ◌≤◌, Bool, true, false, not, cond, eqb, List, [], ◌∷◌, ◌++◌, ◌⊎◌, None, length, get_or, set, take, map, refl, sym, ap, ◌∙◌, inl, inr, arith, get_or-set_same, get_or-set_other}
use Rattle.std.proofs.lemmas.Bool.{false≢true, cases_Bool, cases_eq, cases_lt, or_cases, eqb-true}
use Rattle.std.proofs.lemmas.List.{take_more, map_push, map-append, append-nil, get_or-map, get_or_past}
use Rattle.std.proofs.lemmas.List.Concat.{flat_map-append}
use Rattle.std.proofs.lemmas.List.Sums.{sum_by-set}
use Rattle.mw_rules.specs.Holds.{Bag, Places, places_of}
use Rattle.mw_rules.specs.Laws.{IsPartOf}
use Rattle.mw_rules.specs.Names.{is_among}
use Rattle.mw_multi.specs.Joint.{Joint}
use Rattle.mw_multi.specs.Steps.{Step}
use Rattle.mw_reach.specs.Reach.{is_open}
use Rattle.mw_reach.specs.Counts.{missing}
use Rattle.mw_reach.specs.Rows.{step_of}
use Rattle.mw_multi.specs.Placement.{numbers_at}
use Rattle.mw_reach.specs.Tables.{no_step, step_at}
use Rattle.mw_reach.specs.Worklist.{no_row, row_at, Lead, Wakes, steps_at, numbers_of}
use Rattle.mw_reach.specs.declared.row.Row.{Row}
use Rattle.mw_reach.proofs.Found.{Adds-set, IsPartOf-Adds}

Lead-append : (bag : Bag) (done v : Places) (xs ys : List Step) → Lead bag done v xs → Lead bag done v ys → Lead bag done v (xs ++ ys)
Lead-append bag done v [] ys h k = k
Lead-append bag done v (x ∷ xs) ys h k = (h.0, Lead-append bag done v xs ys h.1 k)

Lead-parts : (bag : Bag) (done v : Places) (xs ys : List Step) → Lead bag done v (xs ++ ys) → Lead bag done v xs × Lead bag done v ys
Lead-parts bag done v [] ys h = (tt, h)
Lead-parts bag done v (x ∷ xs) ys h = let rest = Lead-parts bag done v xs ys h.1 in ((h.0, rest.0), rest.1)

Lead-more : (bag : Bag) (done v w : Places) (xs : List Step) → IsPartOf v w → Lead bag done v xs → Lead bag done w xs
Lead-more bag done v w [] h l = tt
Lead-more bag done v w (x ∷ xs) h l = ((λ o. h x.to (l.0 o)), Lead-more bag done v w xs h l.1)

-- a step that is asked leads into the list
pub Lead-member : (bag : Bag) (done v : Places) (steps : List Step) (numbers : List ℕ) (n : ℕ) → Lead bag done v (steps_at steps numbers) → is_among numbers n ≡ true → is_open (step_at steps n) bag done ≡ true → v (step_at steps n).to ≡ true
Lead-member bag done v steps [] n h e o = absurd (false≢true e)
Lead-member bag done v steps (m ∷ ms) n h e o = elim (or_cases (eqb m n) (is_among ms n) e) [
  | inl here ↦ let same : m ≡ n = eqb-true m n here in rw (← same) (h.0 (rw same o))
  | inr later ↦ Lead-member bag done v steps ms n h.1 later o
]

-- what every step keeps, some of them keep
pub Lead-all : (bag : Bag) (done v : Places) (steps : List Step) (numbers : List ℕ) → ((n : ℕ) → is_open (step_at steps n) bag done ≡ true → v (step_at steps n).to ≡ true) → Lead bag done v (steps_at steps numbers)
Lead-all bag done v steps [] h = tt
Lead-all bag done v steps (m ∷ ms) h = (h m, Lead-all bag done v steps ms h)

-- a place in a list is before its end
pub inside_list : (places : List Bool) (p : ℕ) → places_of places p ≡ true → p < length places
inside_list places p e = elim (cases_lt p (length places)) [
  | inl h ↦ h
  | inr h ↦ absurd (false≢true (sym (get_or_past places p false h) ∙ e))
]

pub missing-set : (listed : List Bool) (p : ℕ) → p < length listed → places_of listed p ≡ false → missing (set listed p true) + 1 ≡ missing listed
missing-set listed p h e =
    let f : Bool → ℕ = λ b. cond (not b) 1 0 in
    omega (arith, sum_by-set f listed p true false h, ap f e)

-- with a place listed no more are missing
pub missing-fewer : (listed : List Bool) (p : ℕ) → p < length listed → missing (set listed p true) ≤ missing listed
missing-fewer listed p h = elim (cases_Bool (places_of listed p)) [
  | inl there ↦ let f : Bool → ℕ = λ b. cond (not b) 1 0 in omega (arith, sum_by-set f listed p true false h, ap f there)
  | inr new ↦ omega (arith, missing-set listed p h new)
]

-- a place that isn't listed leaves room for it
pub room_left : (listed : List Bool) (p : ℕ) → p < length listed → places_of listed p ≡ false → 1 ≤ missing listed
room_left listed p h e = omega (arith, missing-set listed p h e)

module _ (bag : Bag) (done : Places) where
  -- a step that leads to a listed place, or isn't open
  pub not_listed : (step : Step) (listed : List Bool) (queue : List ℕ) (len : ℕ) → (places_of listed step.to ≡ true) ⊎ (is_open step bag done ≡ false) → Wakes (step ∷ []) bag done listed queue len listed queue len
  not_listed step listed queue len h = record {
    grows = λ p e. e;
    settled = (λ o. elim h [ inl there ↦ there | inr shut ↦ absurd (false≢true (sym shut ∙ o)) ], tt);
    sound = λ v l k. k;
    longer = omega arith;
    queued = λ head l q. q;
    entries = λ e. e;
    room = refl;
    front = λ k l. refl;
  }

  pub newly_listed : (step : Step) (listed : List Bool) (queue : List ℕ) (len : ℕ) → step.to < length listed → len < length queue → places_of listed step.to ≡ false → is_open step bag done ≡ true
      → Wakes (step ∷ []) bag done listed queue len (set listed step.to true) (set queue len step.to) (len + 1)
  newly_listed step listed queue len h k new o =
      let a = Adds-set listed step.to h new in
      let grows : IsPartOf (places_of listed) (places_of (set listed step.to true)) = λ p e. elim (cases_eq p step.to) [
        | inl same ↦ ap (places_of (set listed step.to true)) same ∙ a.added
        | inr other ↦ sym (a.others p other) ∙ e
      ] in record {
        grows = grows;
        settled = (λ e. a.added, tt);
        sound = λ v l s. IsPartOf-Adds a v s (l.0 o);
        longer = omega arith;
        queued = λ head l q p e d. elim (cases_eq p step.to) [
          | inl same ↦ (len, l, omega arith, get_or-set_same queue len step.to 0 k ∙ sym same)
          | inr other ↦
              let old = q p (a.others p other ∙ e) d in
              let before : old.0 ≢ len = omega (arith, old.2) in
              (old.0, old.1, omega (arith, old.2), get_or-set_other queue len old.0 step.to 0 before ∙ old.3)
        ];
        entries = λ all j l. elim (cases_eq j len) [
          | inl same ↦ rw (same, get_or-set_same queue len step.to 0 k) a.added
          | inr other ↦ rw (get_or-set_other queue len j step.to 0 other) (grows (get_or queue j 0) (all j (omega arith)))
        ];
        room = omega (arith, missing-set listed step.to h new);
        front = λ j l. get_or-set_other queue len j step.to 0 (omega arith);
      }

  pub asked_both : (xs ys : List Step) (listed : List Bool) (queue : List ℕ) (len : ℕ) (later : List Bool) (later_queue : List ℕ) (later_len : ℕ) (last : List Bool) (last_queue : List ℕ) (last_len : ℕ)
      → Wakes xs bag done listed queue len later later_queue later_len → Wakes ys bag done later later_queue later_len last last_queue last_len
      → Wakes (xs ++ ys) bag done listed queue len last last_queue last_len
  asked_both xs ys listed queue len later later_queue later_len last last_queue last_len a b = record {
    grows = λ p e. b.grows p (a.grows p e);
    settled = Lead-append bag done (places_of last) xs ys (Lead-more bag done (places_of later) (places_of last) xs b.grows a.settled) b.settled;
    sound = λ v l h. let parts = Lead-parts bag done v xs ys l in b.sound v parts.1 (a.sound v parts.0 h);
    longer = omega (arith, a.longer, b.longer);
    queued = λ head l q. b.queued head (omega (arith, a.longer)) (a.queued head l q);
    entries = λ e. b.entries (a.entries e);
    room = b.room ∙ a.room;
    front = λ k l. b.front k (omega (arith, a.longer)) ∙ a.front k l;
  }

  -- the steps with the first i numbers, and with one more
  pub one_more_asked : (steps : List Step) (numbers : List ℕ) (i : ℕ)
      (listed : List Bool) (queue : List ℕ) (len : ℕ) (later : List Bool) (later_queue : List ℕ) (later_len : ℕ) (last : List Bool) (last_queue : List ℕ) (last_len : ℕ)
      → i < length numbers
      → Wakes (steps_at steps (take i numbers)) bag done listed queue len later later_queue later_len
      → Wakes (step_at steps (get_or numbers i 0) ∷ []) bag done later later_queue later_len last last_queue last_len
      → Wakes (steps_at steps (take (i + 1) numbers)) bag done listed queue len last last_queue last_len
  one_more_asked steps numbers i listed queue len later later_queue later_len last last_queue last_len h a b =
      let more : steps_at steps (take (i + 1) numbers) ≡ steps_at steps (take i numbers) ++ step_at steps (get_or numbers i 0) ∷ [] =
      ap (steps_at steps) (take_more numbers i 0 h) ∙ map_push (step_at steps) (take i numbers) (get_or numbers i 0) in
      rw more (asked_both (steps_at steps (take i numbers)) (step_at steps (get_or numbers i 0) ∷ []) listed queue len later later_queue later_len last last_queue last_len a b)

pub step_at-map : (joint : Joint) (rows : List Row) (n : ℕ) → n < length rows → step_at (map (step_of joint) rows) n ≡ step_of joint (row_at rows n)
step_at-map joint rows n h = get_or-map (step_of joint) rows n no_row no_step h

-- the steps that stand with the first items, and with one more
pub numbers_more : (by_item : List (List ℕ)) (items : List ℕ) (i : ℕ) → i < length items → numbers_of by_item (take (i + 1) items) ≡ numbers_of by_item (take i items) ++ numbers_at by_item (get_or items i 0)
numbers_more by_item items i h =
    ap (numbers_of by_item) (take_more items i 0 h)
    ∙ flat_map-append (numbers_at by_item) (take i items) (get_or items i 0 ∷ [])
    ∙ ap (λ ns. numbers_of by_item (take i items) ++ ns) (append-nil (numbers_at by_item (get_or items i 0)))

pub one_item_more : (bag : Bag) (done : Places) (steps : List Step) (by_item : List (List ℕ)) (items : List ℕ) (i : ℕ)
    (listed : List Bool) (queue : List ℕ) (len : ℕ) (later : List Bool) (later_queue : List ℕ) (later_len : ℕ) (last : List Bool) (last_queue : List ℕ) (last_len : ℕ)
    → i < length items
    → Wakes (steps_at steps (numbers_of by_item (take i items))) bag done listed queue len later later_queue later_len
    → Wakes (steps_at steps (numbers_at by_item (get_or items i 0))) bag done later later_queue later_len last last_queue last_len
    → Wakes (steps_at steps (numbers_of by_item (take (i + 1) items))) bag done listed queue len last last_queue last_len
one_item_more bag done steps by_item items i listed queue len later later_queue later_len last last_queue last_len h a b =
    let front = numbers_of by_item (take i items) in
    let next = numbers_at by_item (get_or items i 0) in
    let more : steps_at steps (numbers_of by_item (take (i + 1) items)) ≡ steps_at steps front ++ steps_at steps next = ap (steps_at steps) (numbers_more by_item items i h) ∙ map-append (step_at steps) front next in
    rw more (asked_both bag done (steps_at steps front) (steps_at steps next) listed queue len later later_queue later_len last last_queue last_len a b)

-- a row that starts nowhere is open
pub origin_open : (joint : Joint) (row : Row) (bag : Bag) (done : Places) → row.start ≡ None → is_open (step_of joint row) bag done ≡ true
origin_open joint row bag done e = rw e refl
