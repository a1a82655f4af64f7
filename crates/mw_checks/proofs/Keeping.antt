-- A check more, in the flags and in the rows.
use Rattle.std.proofs.Common.{◌≡◌, ℕ, zero, suc, ℤ, ◌+◌, ◌*◌, ◌<◌, ◌≤◌, ◌==◌, ◌&&◌, ◌||◌, inl, inr, Vec, Global, List, [], ◌∷◌, ◌++◌, Bool, true, false, Option, Some, None, length, map, get_or, drop, set, replicate, refl, sym, ap, ap₂, ◌∙◌, subst, arith, append_assoc, append-nil, cond}
use Rattle.std.specs.Prelude.{slice_get, vec_len, vec_capacity}
use Rattle.std.specs.Option.{option_to_list}
use Rattle.std.specs.Bool.{Decides}
use Rattle.std.specs.Ordering.{int_eq}
use Rattle.std.proofs.lemmas.Bool.{eq-eqb}
use Rattle.std.proofs.lemmas.Bool.Decides.{eqb_tells, Decides-and, Decides-eqb, Decides-int_eq}
use Rattle.std.proofs.lemmas.List.{drop_more, length-append, length-set, length-map, length-replicate, map-append, get_or-set_same, get_or-set_other}
use Rattle.std.proofs.lemmas.Option.{slice_get_within, slice_get_cases}
use Rattle.mw_model.specs.Seed.{Seed, Held, held_among, held_at}
use Rattle.mw_protocol.specs.Checks.{Check, same_check, has_check, found_item, item_for, items_found, locations_in}
use Rattle.mw_checks.specs.Log.{AreFresh, check_of}
use Rattle.mw_checks.specs.Numbers.{number_of}
use Rattle.mw_checks.specs.Rows.{seat, flagged, standing, one_if, many_of, awaited, Owners, receivers_of, finder_of, location_of, AllBelow, Fit, HasPlace, HavePlaces, Put, PutFor, Shows, Keeps, Counts, Empty}
use Rattle.mw_checks.proofs.Numbering.{held_numbered}
use Rattle.mw_checks.proofs.Counting.{nobody, other_number, row_has_room, fits_put, get_or-replicate_same, fits_none, all_awaited, awaited_less}

-- ---- lists that grow

pub has_check-append : (xs ys : List Check) (c : Check) → has_check (xs ++ ys) c ≡ (has_check xs c || has_check ys c)
has_check-append [] ys c = refl
has_check-append (x ∷ xs) ys c = elim (same_check x c) as (λ b. (b || has_check (xs ++ ys) c) ≡ ((b || has_check xs c) || has_check ys c)) [ true ↦ refl | false ↦ has_check-append xs ys c ]

pub items_found-append : (seed : Seed) (team slot : ℕ) (xs ys : List Check) → items_found seed team slot (xs ++ ys) ≡ items_found seed team slot xs ++ items_found seed team slot ys
items_found-append seed team slot [] ys = refl
items_found-append seed team slot (c ∷ xs) ys =
    let first = item_for seed team slot c (held_at seed c.slot c.location) in
    ap (λ is. first ++ is) (items_found-append seed team slot xs ys) ∙ sym (append_assoc first (items_found seed team slot xs) (items_found seed team slot ys))

pub locations_in-append : (team slot : ℕ) (xs ys : List Check) → locations_in team slot (xs ++ ys) ≡ locations_in team slot xs ++ locations_in team slot ys
locations_in-append team slot [] ys = refl
locations_in-append team slot (c ∷ xs) ys =
    elim ((c.team == team) && (c.slot == slot)) as (λ b. cond b (c.location ∷ locations_in team slot (xs ++ ys)) (locations_in team slot (xs ++ ys))
    ≡ cond b (c.location ∷ locations_in team slot xs) (locations_in team slot xs) ++ locations_in team slot ys) [
      | true ↦ ap (λ zs. c.location ∷ zs) (locations_in-append team slot xs ys)
      | false ↦ locations_in-append team slot xs ys
    ]

standing-append : (hs : List Held) (xs ys : List ℕ) → standing hs (xs ++ ys) ≡ standing hs xs ++ standing hs ys
standing-append hs [] ys = refl
standing-append hs (n ∷ xs) ys =
    let first = option_to_list (slice_get hs n) in
    ap (λ zs. first ++ zs) (standing-append hs xs ys) ∙ sym (append_assoc first (standing hs xs) (standing hs ys))

-- ---- tests

pub not_true : (b : Bool) → (b ≡ true → ⊥) → b ≡ false
not_true true h = absurd (h refl)
not_true false h = refl

or_nothing : (a b : Bool) → b ≡ false → (a || (b || false)) ≡ a
or_nothing true b h = refl
or_nothing false b h = ap (λ (x : Bool). x || false) h

or_something : (a b : Bool) → b ≡ true → (a || (b || false)) ≡ true
or_something true b h = refl
or_something false b h = ap (λ (x : Bool). x || false) h

-- two checks test the same where they are of one team, slot and location
tests_same : (a b : Check) → Decides (same_check a b) (((a.team ≡ b.team) × (a.slot ≡ b.slot)) × (a.location ≡ b.location))
tests_same a b =
    Decides-and ((a.team == b.team) && (a.slot == b.slot)) (int_eq a.location b.location) (Decides-and (a.team == b.team) (a.slot == b.slot) (Decides-eqb a.team b.team) (Decides-eqb a.slot b.slot))
    (Decides-int_eq a.location b.location)

pub same_parts : (a b : Check) → same_check a b ≡ true → ((a.team ≡ b.team) × (a.slot ≡ b.slot)) × (a.location ≡ b.location)
same_parts a b h = (tests_same a b).0 h

pub same_if : (a b : Check) → a.team ≡ b.team → a.slot ≡ b.slot → a.location ≡ b.location → same_check a b ≡ true
same_if a b t s l = (tests_same a b).1 ((t, s), l)

-- what stands at a location is of that slot and location
pub held_is : (hs : List Held) (slot : ℕ) (location : ℤ) (h : Held) → held_among hs slot location ≡ Some h → (h.slot ≡ slot) × (h.location ≡ location)
held_is [] slot location h e = cc
held_is (x ∷ hs) slot location h e =
    (elim ((x.slot == slot) && int_eq x.location location) as (λ b. ((x.slot == slot) && int_eq x.location location) ≡ b → cond b (Some x) (held_among hs slot location) ≡ Some h → (h.slot ≡ slot) × (h.location ≡ location)) [
      | true ↦ (λ test found.
          let same : x ≡ h = cc in
          let both = (Decides-and (x.slot == slot) (int_eq x.location location) (Decides-eqb x.slot slot) (Decides-int_eq x.location location)).0 test in
          (ap (λ y. y.slot) (sym same) ∙ both.0, ap (λ y. y.location) (sym same) ∙ both.1))
      | false ↦ (λ test found. held_is hs slot location h found)
    ]) refl e

-- a number is that of one location alone
one_place : (seed : Seed) (s t : ℕ) (l m : ℤ) (n : ℕ) (h : Held) → slice_get seed.locations n ≡ Some h → number_of seed s l ≡ Some n → number_of seed t m ≡ Some n → (s ≡ t) × (l ≡ m)
one_place seed s t l m n h there a b =
    let first = held_is seed.locations s l h (sym (held_numbered seed s l (Some n) (sym a)) ∙ there) in
    let second = held_is seed.locations t m h (sym (held_numbered seed t m (Some n) (sym b)) ∙ there) in
    (sym first.0 ∙ second.0, sym first.1 ∙ second.1)

-- ---- the flags

flags_more : (seed : Seed) (checked : List Check) (done : List Bool) (c : Check) (n : ℕ) (h : Held) → c.team < 8 → slice_get seed.locations n ≡ Some h → number_of seed c.slot c.location ≡ Some n
    → seat n c.team < length done → ((team slot : ℕ) (location : ℤ) → team < 8 → flagged done team (number_of seed slot location) ≡ has_check checked record { team = team; slot = slot; location = location })
    → (team slot : ℕ) (location : ℤ) → team < 8
    → flagged (set done (seat n c.team) true) team (number_of seed slot location) ≡ has_check (checked ++ c ∷ []) record { team = team; slot = slot; location = location }
flags_more seed checked done c n h t there at within flags team slot location k =
    let q : Check = record { team = team; slot = slot; location = location } in
    let after : has_check (checked ++ c ∷ []) q ≡ (has_check checked q || (same_check c q || false)) = has_check-append checked (c ∷ []) q in
    (elim (number_of seed slot location) as (λ o. number_of seed slot location ≡ o → flagged done team o ≡ has_check checked q → flagged (set done (seat n c.team) true) team o ≡ has_check (checked ++ c ∷ []) q) [
      | None ↦ (λ e was.
          let other : same_check c q ≡ false =
          not_true (same_check c q) (λ s. let parts = same_parts c q s in let wrong : Some n ≡ None = sym at ∙ ap₂ (λ (x : ℕ) (y : ℤ). number_of seed x y) parts.0.1 parts.1 ∙ e in cc) in
          was ∙ sym (after ∙ or_nothing (has_check checked q) (same_check c q) other))
      | Some m ↦ (λ e was. elim (eqb_tells (seat m team) (seat n c.team)) [
        | inl same ↦
            let is_number : m ≡ n = omega (arith, same.1) in
            let is_team : c.team ≡ team = omega (arith, same.1) in
            let place = one_place seed c.slot slot c.location location n h there at (e ∙ ap (λ (x : ℕ). Some x) is_number) in
            let yes_check : same_check c q ≡ true = same_if c q is_team place.0 place.1 in
            ap (λ i. get_or (set done (seat n c.team) true) i false) same.1 ∙ get_or-set_same done (seat n c.team) true false within
            ∙ sym (after ∙ or_something (has_check checked q) (same_check c q) yes_check)
        | inr apart ↦
            let other : same_check c q ≡ false =
            not_true (same_check c q) (λ s.
            let parts = same_parts c q s in
            let numbers : Some n ≡ Some m = sym at ∙ ap₂ (λ (x : ℕ) (y : ℤ). number_of seed x y) parts.0.1 parts.1 ∙ e in
            let number : n ≡ m = cc in
            apart.1 (ap₂ seat (sym number) (sym parts.0.0))) in
            get_or-set_other done (seat n c.team) (seat m team) true false apart.1 ∙ was ∙ sym (after ∙ or_nothing (has_check checked q) (same_check c q) other)
      ])
    ]) refl (flags team slot location k)

-- ---- the rows

show_more : {X : Type 0} (f : Held → X) (hs : List Held) (ns : List ℕ) (n : ℕ) (h : Held) → slice_get hs n ≡ Some h → map f (standing hs (ns ++ n ∷ [])) ≡ map f (standing hs ns) ++ f h ∷ []
show_more f hs ns n h there =
    ap (map f) (standing-append hs ns (n ∷ []) ∙ ap (λ (o : Option Held). standing hs ns ++ (option_to_list o ++ [])) there) ∙ map-append f (standing hs ns) (h ∷ [])

show_if : {X : Type 0} (f : Held → X) (hs : List Held) (ns : List ℕ) (n : ℕ) (h : Held) (b : Bool) → slice_get hs n ≡ Some h → map f (standing hs (ns ++ cond b (n ∷ []) [])) ≡ map f (standing hs ns) ++ cond b (f h ∷ []) []
show_if f hs ns n h true there = show_more f hs ns n h there
show_if f hs ns n h false there = ap (λ ms. map f (standing hs ms)) (append-nil ns) ∙ sym (append-nil (map f (standing hs ns)))

shows_put : {X : Type 0} (f : Held → X) (hs : List Held) (rows new : List (Vec ℕ Global)) (wanted : ℕ → ℕ → List X) (owners : Owners) (team0 n : ℕ) (h : Held) → team0 < 8
    → slice_get hs n ≡ Some h → PutFor owners team0 n rows new → Shows f hs rows wanted
    → Shows f hs new (λ team slot. wanted team slot ++ cond ((team0 == team) && owners slot) (f h ∷ []) [])
shows_put f hs rows new wanted owners team0 n h t0 there p shows = λ team slot d k l.
    elim (eqb_tells team team0) [
      | inl same ↦
          let test : (team0 == team) ≡ true = eq-eqb team0 team (sym same.1) in
          let more : (b : Bool) → map f (standing hs ((get_or rows (seat slot team0) d).items ++ cond b (n ∷ []) [])) ≡ map f (standing hs (get_or rows (seat slot team0) d).items) ++ cond b (f h ∷ []) [] =
          λ b. show_if f hs (get_or rows (seat slot team0) d).items n h b there in
          ap (λ u. map f (standing hs (get_or new (seat slot u) d).items)) same.1
          ∙ ap (λ ns. map f (standing hs ns)) (p.items slot d l)
          ∙ more (owners slot)
          ∙ ap (λ u. map f (standing hs (get_or rows (seat slot u) d).items) ++ cond (owners slot) (f h ∷ []) []) (sym same.1)
          ∙ ap₂ (λ xs (b : Bool). xs ++ cond (b && owners slot) (f h ∷ []) []) (shows team slot d k l) (sym test)
      | inr apart ↦
          let test : (team0 == team) ≡ false = other_number team0 team (λ e. apart.1 (sym e)) in
          ap (λ (v : Vec ℕ Global). map f (standing hs v.items)) (p.others team slot d k apart.1)
          ∙ shows team slot d k l
          ∙ sym (append-nil (wanted team slot))
          ∙ ap (λ (b : Bool). wanted team slot ++ cond (b && owners slot) (f h ∷ []) []) (sym test)
    ]

-- a number in one row alone is one in the row of a single owner
pub put_for_one : (team slot n : ℕ) (old new : List (Vec ℕ Global)) → team < 8 → Put old new (seat slot team) n → PutFor (λ s. slot == s) team n old new
put_for_one team slot n old new t p = record {
  many = p.many;
  items = λ s d l. elim (eqb_tells slot s) [
    | inl e ↦
        subst (λ x. (get_or new (seat x team) d).items ≡ (get_or old (seat x team) d).items ++ cond (slot == x) (n ∷ []) []) e.1
        (p.items d ∙ ap (λ (b : Bool). (get_or old (seat slot team) d).items ++ cond b (n ∷ []) []) (sym (eq-eqb slot slot refl)))
    | inr e ↦
        ap (λ (v : Vec ℕ Global). v.items) (p.others (seat s team) d (λ q. e.1 (omega (arith, q))))
        ∙ sym (append-nil (get_or old (seat s team) d).items)
        ∙ ap (λ (b : Bool). (get_or old (seat s team) d).items ++ cond b (n ∷ []) []) (sym e.0)
  ];
  len = λ s d l. elim (eqb_tells slot s) [
    | inl e ↦
        subst (λ x. vec_len (get_or new (seat x team) d) ≡ vec_len (get_or old (seat x team) d) + one_if (slot == x)) e.1
        (p.len d ∙ ap (λ (b : Bool). vec_len (get_or old (seat slot team) d) + one_if b) (sym (eq-eqb slot slot refl)))
    | inr e ↦
        let same : vec_len (get_or new (seat s team) d) ≡ vec_len (get_or old (seat s team) d) = ap (λ (v : Vec ℕ Global). vec_len v) (p.others (seat s team) d (λ q. e.1 (omega (arith, q)))) in
        let none : one_if (slot == s) ≡ 0 = ap one_if e.0 in
        omega (arith, same, none)
  ];
  space = λ s d l. elim (eqb_tells slot s) [
    | inl e ↦ subst (λ x. vec_capacity (get_or old (seat x team) d) ≤ vec_capacity (get_or new (seat x team) d)) e.1 (p.space d)
    | inr e ↦
        let same : vec_capacity (get_or new (seat s team) d) ≡ vec_capacity (get_or old (seat s team) d) = ap (λ (v : Vec ℕ Global). vec_capacity v) (p.others (seat s team) d (λ q. e.1 (omega (arith, q)))) in
        omega (arith, same)
  ];
  others = λ other s d k apart. p.others (seat s other) d (λ q. apart (omega (arith, q)));
}

-- ---- a check more

-- a known check that isn't there yet has its places, and once it is entered the flags and the rows keep it too
pub record Enters (seed : Seed) (checked : List Check) (c : Check) (n : ℕ) (h : Held) : Type 0 where
  pub team : c.team < 8
  pub slot : c.slot ≤ 1024
  pub number : number_of seed c.slot c.location ≡ Some n
  pub there : slice_get seed.locations n ≡ Some h
  pub new : has_check checked c ≡ false

-- the pair that a loop stands at
pub here : (ps : List (ℕ × ℤ)) (i : ℕ) (p : ℕ × ℤ) → i < length ps → p ≡ get_or ps i p → drop i ps ≡ p ∷ drop (i + 1) ps
here ps i p within is = drop_more ps i p within ∙ ap (λ (q : ℕ × ℤ). q ∷ drop (i + 1) ps) (sym is)

-- the first of fresh pairs enters
pub enters : (seed : Seed) (checked : List Check) (team : ℕ) (pair : ℕ × ℤ) (rest : List (ℕ × ℤ)) (n : ℕ) (h : Held) (o : Option ℕ) → AreFresh seed checked team (pair ∷ rest) → team < 8 → pair.0 ≤ 1024
    → o ≡ number_of seed pair.0 pair.1 → o ≡ Some n → slice_get seed.locations n ≡ Some h → Enters seed checked (check_of team pair) n h
enters seed checked team pair rest n h o fresh t s at is there = record { team = t; slot = s; number = sym at ∙ is; there = there; new = fresh.1.0 }

number_within : (seed : Seed) (done : List Bool) (team n : ℕ) (h : Held) → length done ≡ 8 * length seed.locations → team < 8 → slice_get seed.locations n ≡ Some h → seat n team < length done
number_within seed done team n h many t there = let within : n < length seed.locations = slice_get_within seed.locations n h there in omega arith

pub unflagged : (seed : Seed) (checked : List Check) (done : List Bool) (received found : List (Vec ℕ Global)) (c : Check) (n : ℕ) (h : Held) → Keeps seed checked done received found → Enters seed checked c n h
    → get_or done (seat n c.team) false ≡ false
unflagged seed checked done received found c n h k e =
    ap (flagged done c.team) (sym e.number) ∙ k.flags c.team c.slot c.location e.team ∙ e.new

owner_at : (f : Held → Owners) (hs : List Held) (n : ℕ) (h : Held) → slice_get hs n ≡ Some h → get_or (map f hs) n nobody ≡ f h
owner_at f [] n h e = cc
owner_at f (x ∷ hs) zero h e = let same : x ≡ h = cc in ap f same
owner_at f (x ∷ hs) (suc n) h e = owner_at f hs n h e

fits_owned : (f : Held → Owners) (hs : List Held) (done : List Bool) (rows new : List (Vec ℕ Global)) (team n : ℕ) (h : Held) → Fit (map f hs) done rows → team < 8 → slice_get hs n ≡ Some h
    → seat n team < length done → get_or done (seat n team) false ≡ false → PutFor (f h) team n rows new → Fit (map f hs) (set done (seat n team) true) new
fits_owned f hs done rows new team n h k t there within free p =
    let row : n < length (map f hs) = subst (λ m. n < m) (sym (length-map hs f)) (slice_get_within hs n h there) in
    fits_put (map f hs) done rows new team n k t row within free (subst (λ (o : Owners). PutFor o team n rows new) (sym (owner_at f hs n h there)) p)

places_owned : (f : Held → Owners) (hs : List Held) (done : List Bool) (rows : List (Vec ℕ Global)) (team n : ℕ) (h : Held) → Fit (map f hs) done rows → team < 8 → slice_get hs n ≡ Some h
    → seat n team < length done → get_or done (seat n team) false ≡ false → HavePlaces (f h) team rows
places_owned f hs done rows team n h k t there within free slot few own =
    let owner : get_or (map f hs) n nobody slot ≡ true = ap (λ (o : Owners). o slot) (owner_at f hs n h there) ∙ own in
    let row : n < length (map f hs) = subst (λ m. n < m) (sym (length-map hs f)) (slice_get_within hs n h there) in
    record {
      within = omega (arith, k.many);
      room = λ d. row_has_room (map f hs) done rows team slot n d k t row few owner within free;
    }

-- its rows have memory for it
pub places_more : (seed : Seed) (checked : List Check) (done : List Bool) (received found : List (Vec ℕ Global)) (c : Check) (n : ℕ) (h : Held) → Keeps seed checked done received found → Enters seed checked c n h
    → (seat n c.team < length done) × (HavePlaces (receivers_of seed h) c.team received × HasPlace found (seat h.slot c.team))
places_more seed checked done received found c n h k e =
    let within : seat n c.team < length done = number_within seed done c.team n h k.many e.team e.there in
    let free : get_or done (seat n c.team) false ≡ false = unflagged seed checked done received found c n h k e in
    let finder : h.slot ≡ c.slot = (held_is seed.locations c.slot c.location h (sym (held_numbered seed c.slot c.location (Some n) (sym e.number)) ∙ e.there)).0 in (
      within,
      (
        places_owned (receivers_of seed) seed.locations done received c.team n h k.received_fit e.team e.there within free,
        places_owned finder_of seed.locations done found c.team n h k.found_fit e.team e.there within free h.slot (subst (λ m. m ≤ 1024) (sym finder) e.slot) (eq-eqb h.slot h.slot refl),
      ),
    )

one_listed : (b : Bool) (l : ℤ) (ls : List ℤ) → length (ls ++ cond b (l ∷ []) []) ≡ length ls + one_if b
one_listed true l ls = length-append ls (l ∷ [])
one_listed false l ls = length-append ls []

-- one check more, and one location less that is to come
counts_more : (done : List Bool) (owners : List Owners) (checked : List Check) (c : Check) (team slot n : ℕ) (h : Held) → team < 8 → c.team < 8 → h.slot ≡ c.slot → n < length owners → get_or owners n nobody ≡ finder_of h
    → seat n c.team < length done → get_or done (seat n c.team) false ≡ false
    → length (locations_in team slot checked) + awaited done team slot 0 owners ≡ many_of slot owners
    → length (locations_in team slot (checked ++ c ∷ [])) + awaited (set done (seat n c.team) true) team slot 0 owners ≡ many_of slot owners
counts_more done owners checked c team slot n h t u is w own there free before =
    let test = (c.team == team) && (c.slot == slot) in
    let listed : length (locations_in team slot (checked ++ c ∷ [])) ≡ length (locations_in team slot checked) + one_if test =
    ap length (locations_in-append team slot checked (c ∷ [])) ∙ one_listed test c.location (locations_in team slot checked) in
    let less : awaited (set done (seat n c.team) true) team slot 0 owners + one_if test ≡ awaited done team slot 0 owners =
    ap (λ (x : ℕ). awaited (set done (seat n c.team) true) team slot 0 owners + one_if ((c.team == team) && (x == slot))) (sym is)
    ∙ awaited_less done team slot c.team n (finder_of h) owners t u w own there free in
    omega (arith, listed, less, before)

pub keeps_more : (seed : Seed) (checked : List Check) (done : List Bool) (received found received_after found_after : List (Vec ℕ Global)) (c : Check) (n : ℕ) (h : Held)
    → Keeps seed checked done received found → Enters seed checked c n h → PutFor (receivers_of seed h) c.team n received received_after → Put found found_after (seat h.slot c.team) n
    → Keeps seed (checked ++ c ∷ []) (set done (seat n c.team) true) received_after found_after
keeps_more seed checked done received found received_after found_after c n h k e p r =
    let hs = seed.locations in
    let within : seat n c.team < length done = number_within seed done c.team n h k.many e.team e.there in
    let free : get_or done (seat n c.team) false ≡ false = unflagged seed checked done received found c n h k e in
    let row : n < length hs = slice_get_within hs n h e.there in
    let held : held_at seed c.slot c.location ≡ Some h = sym (held_numbered seed c.slot c.location (Some n) (sym e.number)) ∙ e.there in
    let finder : h.slot ≡ c.slot = (held_is hs c.slot c.location h held).0 in
    let location : location_of h ≡ c.location = (held_is hs c.slot c.location h held).1 in
    let q : PutFor (finder_of h) c.team n found found_after = put_for_one c.team h.slot n found found_after e.team r in
    record {
      many = length-set done (seat n c.team) true ∙ k.many;
      flags = flags_more seed checked done c n h e.team e.there e.number within k.flags;
      received_fit = fits_owned (receivers_of seed) hs done received received_after c.team n h k.received_fit e.team e.there within free p;
      found_fit = fits_owned finder_of hs done found found_after c.team n h k.found_fit e.team e.there within free q;
      received_are = λ team slot d t s. shows_put found_item hs received received_after (λ u r. items_found seed u r checked) (receivers_of seed h) c.team n h e.team e.there p k.received_are team slot d t s
          ∙ ap (λ is. items_found seed team slot checked ++ is) (sym (append-nil (item_for seed team slot c (Some h))) ∙ ap (λ (o : Option Held). item_for seed team slot c o ++ []) (sym held))
          ∙ sym (items_found-append seed team slot checked (c ∷ []));
      found_are = λ team slot d t s. shows_put location_of hs found found_after (λ u r. locations_in u r checked) (finder_of h) c.team n h e.team e.there q k.found_are team slot d t s
          ∙ ap₂ (λ (m : ℕ) l. locations_in team slot checked ++ cond ((c.team == team) && (m == slot)) (l ∷ []) []) finder location
          ∙ sym (locations_in-append team slot checked (c ∷ []));
      counted = λ team slot t. counts_more done (map finder_of hs) checked c team slot n h t e.team finder (subst (λ m. n < m) (sym (length-map hs finder_of)) row) (owner_at finder_of hs n h e.there) within free (k.counted team slot t);
    }

-- ---- no check

flag_none : (many team : ℕ) (o : Option ℕ) → flagged (replicate many false) team o ≡ false
flag_none many team None = refl
flag_none many team (Some n) = get_or-replicate_same many (seat n team) false

shows_none : {X : Type 0} (f : Held → X) (hs : List Held) (counts : List ℕ) (rows : List (Vec ℕ Global)) → Empty counts rows → Shows f hs rows (λ team slot. [])
shows_none f hs counts rows e = λ team slot d t s. ap (λ ns. map f (standing hs ns)) (e.items (seat slot team) d (omega arith))

pub keeps_none : (seed : Seed) (receivers finders : List ℕ) (received found : List (Vec ℕ Global)) → Counts (map (receivers_of seed) seed.locations) receivers → Counts (map finder_of seed.locations) finders
    → Empty receivers received → Empty finders found → Keeps seed [] (replicate (8 * length seed.locations) false) received found
keeps_none seed receivers finders received found r g e d = record {
  many = length-replicate (8 * length seed.locations) false;
  flags = λ team slot location t. flag_none (8 * length seed.locations) team (number_of seed slot location);
  received_fit = fits_none (map (receivers_of seed) seed.locations) receivers (8 * length seed.locations) received r e;
  found_fit = fits_none (map finder_of seed.locations) finders (8 * length seed.locations) found g d;
  received_are = shows_none found_item seed.locations receivers received e;
  found_are = shows_none location_of seed.locations finders found d;
  counted = λ team slot t. let none = all_awaited (8 * length seed.locations) team slot 0 (map finder_of seed.locations) in omega (arith, none);
}

-- ---- how many

standing_all : (hs : List Held) (ns : List ℕ) → AllBelow (length hs) ns → length (standing hs ns) ≡ length ns
standing_all hs [] h = refl
standing_all hs (n ∷ ns) h =
    elim (slice_get_cases hs n).1 [
      | inl there ↦ ap (λ (o : Option Held). length (option_to_list o ++ standing hs ns)) there.2 ∙ ap suc (standing_all hs ns h.1)
      | inr past ↦ absurd (omega (arith, past.0, h.0))
    ]

-- a row is as long as what it shows
pub shown_all : {X : Type 0} (f : Held → X) (hs : List Held) (ns : List ℕ) (shown : List X) → AllBelow (length hs) ns → map f (standing hs ns) ≡ shown → length shown ≡ length ns
shown_all f hs ns shown h e = ap length (sym e) ∙ length-map (standing hs ns) f ∙ standing_all hs ns h

-- what a row that was read shows
pub shows_read : {X : Type 0} (f : Held → X) (hs : List Held) (rows : List (Vec ℕ Global)) (wanted : ℕ → ℕ → List X) (team slot : ℕ) (row : Vec ℕ Global) (ns : List ℕ) → Shows f hs rows wanted → team < 8 → slot ≤ 1024
    → row ≡ get_or rows (seat slot team) row → ns ≡ row.items → map f (standing hs ns) ≡ wanted team slot
shows_read f hs rows wanted team slot row ns shows t s is same = ap (λ ms. map f (standing hs ms)) (same ∙ ap (λ (v : Vec ℕ Global). v.items) is) ∙ shows team slot row t s

pub below_read : (owners : List Owners) (done : List Bool) (rows : List (Vec ℕ Global)) (team slot : ℕ) (row : Vec ℕ Global) (ns : List ℕ) → Fit owners done rows → team < 8 → slot ≤ 1024
    → row ≡ get_or rows (seat slot team) row → ns ≡ row.items → AllBelow (length owners) ns
below_read owners done rows team slot row ns fit t s is same = subst (AllBelow (length owners)) (sym (same ∙ ap (λ (v : Vec ℕ Global). v.items) is)) (fit.within team slot row t s)
